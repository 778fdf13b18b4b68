use Prim.Native.Nat.{ℕ, ◌≤◌}
use Rattle.std.proofs.Common.{Ok, Err}
use Rattle.std.proofs.lemmas.Result.{err_from_is_err_and}
use mathlib.Core.Path.{◌≡◌, sym, ap, ap₂, ◌∙◌}
use mathlib.Core.List.{List, []}
use Rattle.terms.specs.declared.Refusal.{Refusal}
use Rattle.terms.specs.Refusal.{required}
use Rattle.terms.specs.declared.Check.TheVariants.{Pass, Fail}
use Rattle.terms.proofs.CheckLaws.{goes_on, stops}
use Rattle.terms.proofs.RefusalLaws.{goes_on_ok, stops_err, refused_for}
use Rattle.lists.specs.declared.Entry.{Entry}
use Rattle.elements.specs.declared.Head.{Head}
use Rattle.records.specs.declared.Awaits.{Awaits}
use Rattle.records.specs.declared.Records.{Records}
use Rattle.packages.specs.Package.{packed, answers_in}
use Rattle.places.specs.Act.{with_answers}
use Rattle.listing.specs.Listing.{items_of}
use Rattle.listing.proofs.ListingLaws.{listing_items}
use Rattle.server_offers.specs.Offer.{offers}
use Rattle.server_answers.specs.Answer.{answer, answer_fits, answered}
use Rattle.server_rules.specs.Took.{Took, refused, said_of, server_with}
use Rattle.server_rules.specs.Pkg5.{fits5, closes, server_takes5}
use Rattle.server_rules.proofs.SaidLaws.{answer_of, went_on, was_refused, refused_as, as_they_were}
use Rattle.server_rules.proofs.takes_5.Goals as goal
use Rattle.server_rules.proofs.takes_5.Goals.{After-check_5, After-take_answers}

-- the offers that the code made
fit : (c : After-check_5) → c.check_5.result ≡ required (fits5 c.args.n (offers c.args.server.now.records) c.args.p.now) Refusal.Unlawful
fit c =
    c.check_5.ensures
    ∙ ap (λ (os : List Entry). required (fits5 c.args.n os c.args.p.now) Refusal.Unlawful) (c.as_slice.ensures ∙ ap items_of c.offers_of-offers.ensures ∙ listing_items (offers c.args.server.now.records))

-- the answers that were taken
module _ (c : After-take_answers) where
  abbrev s : Records
  s = c.args.server.now.records

  os : c.as_slice-2.result.now ≡ offers s
  os = c.as_slice-2.ensures ∙ ap items_of c.offers_of-offers.ensures ∙ listing_items (offers s)

  says : c.take_answers.result ≡ answer_of (answered (offers s) (answers_in c.args.p.now) s).check Refusal.Unlawful
  says = c.take_answers.ensures.said ∙ ap₂ (λ (o x : List Entry). answer_of (answered o x s).check Refusal.Unlawful) os c.answers.ensures.kept

  leaves : c.take_answers.new.s ≡ (answered (offers s) (answers_in c.args.p.now) s).records
  leaves = c.take_answers.ensures.records ∙ ap₂ (λ (o x : List Entry). (answered o x s).records) os c.answers.ensures.kept

pub returns-in_err-check_5 : goal.returns-in_err-check_5
unfolding server_takes5
returns-in_err-check_5 c =
    let no = sym (fit (goal.at.returns-in_err-check_5 c).After-check_5) ∙ c.in_err-check_5.was in
    let all : server_takes5 c.args.n c.args.server.now c.args.p.now ≡ refused c.args.server.now = stops_err _ _ _ _ _ no in
    let p = err_from_is_err_and c.from_residual.result c.from_residual.ensures.1 in
    record { said = p.1 ∙ ap Err (p.2 ∙ refused_for _ _ _ no) ∙ sym (ap said_of all); side = sym (ap (λ (t : Took). t.server) all) }

pub returns-in_err-take_answers : goal.returns-in_err-take_answers
unfolding server_takes5
returns-in_err-take_answers c =
    let b = (goal.at.returns-in_err-take_answers c).After-take_answers in
    let s = c.args.server.now in
    let said = sym (says b) ∙ c.in_err-take_answers.was in
    let fail = was_refused _ _ _ said in
    let all : server_takes5 c.args.n s c.args.p.now ≡ refused s = goes_on_ok _ _ _ _ _ (sym (fit (goal.at.returns-in_err-take_answers c).After-check_5) ∙ c.in_ok-check_5.was) ∙ stops _ _ _ fail in
    let kept : c.take_answers.new.s ≡ s.records = leaves b ∙ as_they_were answer_fits answer (with_answers (offers s.records) (answers_in c.args.p.now)) s.records fail in
    let p = err_from_is_err_and c.from_residual-in_err-take_answers.result c.from_residual-in_err-take_answers.ensures.1 in
    record {
      said = p.1 ∙ ap Err (p.2 ∙ refused_as _ _ _ said) ∙ sym (ap said_of all);
      side = ap (λ (r : Records). server_with s.rule r s.link.anchor s.link.session s.link.awaits) kept ∙ sym (ap (λ (t : Took). t.server) all);
    }

pub returns : goal.returns
unfolding server_takes5
returns c =
    let b = (goal.at.returns c).After-take_answers in
    let s = c.args.server.now in
    let r = answered (offers s.records) (answers_in c.args.p.now) s.records in
    let pass = went_on _ _ _ (sym (says b) ∙ c.in_ok-take_answers.was) in
    let all : server_takes5 c.args.n s c.args.p.now ≡ closes s r.records = goes_on_ok _ _ _ _ _ (sym (fit (goal.at.returns c).After-check_5) ∙ c.in_ok-check_5.was) ∙ goes_on _ _ _ pass in
    record {
      said = ap Ok (c.bare.ensures ∙ ap (λ (h : Head). packed h [] []) c.head_6.ensures) ∙ sym (ap said_of all);
      side = ap (λ (q : Records). server_with s.rule q s.link.session s.link.session Awaits.Nothing) (leaves b) ∙ sym (ap (λ (t : Took). t.server) all);
    }
