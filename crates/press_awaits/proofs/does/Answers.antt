use mathlib.Core.Path.{sym, ap, ◌∙◌}
use Rattle.std.proofs.lemmas.Result.{err_from_is_err_and}
use Rattle.cards.specs.declared.Awaits.{Awaits}
use Rattle.press_awaits.specs.Awaited.{press_does}
use Rattle.press_awaits.proofs.JudgeLaws.{stays_2, stays_4, stays_6, judged_not}
use Rattle.press_awaits.proofs.does.Goals as goal

pub returns-in_err-takes_2-in-Two : goal.returns-in_err-takes_2-in-Two
returns-in_err-takes_2-in-Two c =
    let p = err_from_is_err_and c.from_residual.result c.from_residual.ensures.1 in
    rw (p.1, p.2)
    (judged_not c.args.press.now c.args.x.now _ _ (sym c.is_awaited.ensures ∙ c.if-not-is_awaited.false)
    (sym (ap (λ (a : Awaits). press_does a c.args.press.now c.args.x.now) c.in-Two.is)) (stays_2 _ _) c.takes_2.ensures.side (sym c.takes_2.ensures.said ∙ c.in_err-takes_2-in-Two.was))

pub returns-in_err-takes_4-in-Four : goal.returns-in_err-takes_4-in-Four
returns-in_err-takes_4-in-Four c =
    let p = err_from_is_err_and c.from_residual-in_err-takes_4-in-Four.result c.from_residual-in_err-takes_4-in-Four.ensures.1 in
    rw (p.1, p.2)
    (judged_not c.args.press.now c.args.x.now _ _ (sym c.is_awaited.ensures ∙ c.if-not-is_awaited.false)
    (sym (ap (λ (a : Awaits). press_does a c.args.press.now c.args.x.now) c.in-Four.is)) (stays_4 _ _ _) c.takes_4.ensures.side (sym c.takes_4.ensures.said ∙ c.in_err-takes_4-in-Four.was))

pub returns-in_err-takes_6-in-Six : goal.returns-in_err-takes_6-in-Six
returns-in_err-takes_6-in-Six c =
    let p = err_from_is_err_and c.from_residual-in_err-takes_6-in-Six.result c.from_residual-in_err-takes_6-in-Six.ensures.1 in
    rw (p.1, p.2)
    (judged_not c.args.press.now c.args.x.now _ _ (sym c.is_awaited.ensures ∙ c.if-not-is_awaited.false)
    (sym (ap (λ (a : Awaits). press_does a c.args.press.now c.args.x.now) c.in-Six.is)) (stays_6 _ _) c.takes_6.ensures.side (sym c.takes_6.ensures.said ∙ c.in_err-takes_6-in-Six.was))
