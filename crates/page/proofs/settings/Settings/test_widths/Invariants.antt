use Rattle.std.proofs.Common.{◌≡◌, drop}
use Rattle.page.specs.Puts.{rising}
use Rattle.page.proofs.settings.Settings.test_widths.Given as goal

-- what is left decides
abbrev pub invariant-loop-i : goal.invariant-loop-i
invariant-loop-i g l = rising 0 0 l.self.widths.now ≡ rising l.last l.i (drop l.i l.self.widths.now)
