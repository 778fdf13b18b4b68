use Rattle.std.proofs.Common.{arith, rules, sym, ap, ◌∙◌, ◌+◌, ◌≡◌, ℕ, length}
use Rattle.text.specs.Text.{longest}
use Rattle.spelling.proofs.DataLaws.{length_none, length_some}
use Rattle.spelling.proofs.LoopLaws.{no_bytes, some_bytes}
use Rattle.spelling.proofs.data_len.Goals as goal

pub returns-then-t-eq0 : goal.returns-then-t-eq0
returns-then-t-eq0 c = (sym (length_none _ (no_bytes c.args.t c.if-t-eq0.true)), omega arith)

pub returns : goal.returns
returns c =
    let t = c.args.t in
    let room : length t.bytes ≡ longest = search rules in
    (ap (λ (n : ℕ). 13 + n) c.text_len.ensures.0 ∙ sym (length_some _ (some_bytes t room c.if-t-eq0.false)), omega (arith, c.text_len.ensures.1))
