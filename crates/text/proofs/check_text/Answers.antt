use Rattle.std.proofs.Common.{◌≡◌, Bool, sym, ◌∙◌, arith, rules, tests}
use Rattle.std.specs.List.{list_all}
use Rattle.std.proofs.lemmas.Iterator.{YieldsList-from_slice}
use Rattle.std.proofs.lemmas.Iterator.Search.{all_from_yields_List}
use Rattle.text.specs.Text.{ok_byte, text_ok}
use Rattle.text.proofs.TextLaws.{all_listed, rule_long, rule_short}
use Rattle.text.proofs.check_text.Goals.{else-s-le-LONGEST-via-then-s-le-LONGEST+else-all, else-s-le-LONGEST-via-else-s-le-LONGEST}
use Rattle.text.proofs.check_text.Goals as goal

pub returns-then-all : goal.returns-then-all
returns-then-all c =
    let s = c.args.s.now in
    let by_call : c.all.result ≡ list_all ok_byte s = all_from_yields_List ok_byte _ _ c.all.result c.all.ensures.ran (YieldsList-from_slice s cc) (λ x b q k. search (rules, tests)) in
    let good : text_ok s ≡ Bool.true = rule_short s c.if-s-le-LONGEST.true ∙ sym (all_listed s) ∙ sym by_call ∙ c.if-all.true in
    simp good

pub returns-else-s-le-LONGEST : goal.returns-else-s-le-LONGEST
returns-else-s-le-LONGEST c = elim c.else-s-le-LONGEST.branch [
  | else-s-le-LONGEST-via-then-s-le-LONGEST+else-all w ↦
      let s = c.args.s.now in
      let by_call : w.all.result ≡ list_all ok_byte s = all_from_yields_List ok_byte _ _ w.all.result w.all.ensures.ran (YieldsList-from_slice s cc) (λ x b q k. search (rules, tests)) in
      let bad : text_ok s ≡ Bool.false = rule_short s w.if-s-le-LONGEST.true ∙ sym (all_listed s) ∙ sym by_call ∙ w.if-all.false in
      simp bad
  | else-s-le-LONGEST-via-else-s-le-LONGEST w ↦
      let bad : text_ok c.args.s.now ≡ Bool.false = rule_long c.args.s.now (omega (arith, w.if-s-le-LONGEST.false)) in
      simp bad
]
