use mathlib.Core.Path.{sym, ◌∙◌}
use native.Mathlib.Omega.{arith}
use Rattle.statuses.proofs.FitLaws.{fit_apart, fit_start, fit_stop, fit_on, fit_end}
use Rattle.statuses.proofs.all_fit.Goals as goal

pub returns-then-commands-statuses : goal.returns-then-commands-statuses
returns-then-commands-statuses c = sym (fit_apart _ _ _ _ c.if-commands-statuses.true)

pub loop-i-init : goal.loop-i-init
loop-i-init c = fit_start _ _ _ _

pub returns-then-not-fits : goal.returns-then-not-fits
returns-then-not-fits c = sym (fit_stop _ _ _ _ c.loop-i.i _ _ (omega arith) (omega arith) (sym c.fits.ensures ∙ c.if-not-fits.true)) ∙ c.loop-i.invariant

pub loop-i-preserved : goal.loop-i-preserved
loop-i-preserved c = fit_on _ _ _ _ c.loop-i.i _ _ (omega arith) (omega arith) (sym c.fits.ensures ∙ c.if-not-fits.false) ∙ c.loop-i.invariant

pub returns : goal.returns
returns c = sym (fit_end _ _ _ _ c.loop-i.i (omega arith) (omega arith)) ∙ c.loop-i.invariant
