use Rattle.std.proofs.Common.{rules, ap, Err, sym, ◌∙◌}
use Rattle.page.proofs.Tested.{all_improve, first_worse}
use Rattle.page.proofs.settings.Settings.test_amounts.Goals as goal

pub returns-in-Some : goal.returns-in-Some
returns-in-Some g c = ap Err c.at.ensures ∙ sym (first_worse (g.M.Measure.functions c.args.m.now) c.args.self.amounts.now c.in-Some.i (search rules) (λ j b d. search rules) (λ d. search rules))

pub returns-in-None : goal.returns-in-None
returns-in-None g c = sym (all_improve (g.M.Measure.functions c.args.m.now) c.args.self.amounts.now (λ k b d. search rules))
