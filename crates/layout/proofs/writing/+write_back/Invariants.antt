use Rattle.layout.proofs.writing.+write_back.Given as goal

abbrev pub decreases-write_back : goal.decreases-write_back
decreases-write_back l = l.cursor.entry
