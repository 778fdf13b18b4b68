use Prim.Native.Nat.{ℕ, ◌+◌}
use mathlib.Core.Path.{◌≡◌, ap, ap₂, ◌∙◌}
use mathlib.Core.List.{List, map}
use Rattle.lists.specs.declared.Entry.{Entry}
use Rattle.elements.specs.declared.Head.{Head}
use Rattle.message.specs.declared.Content.{Content}
use Rattle.records.specs.declared.Awaits.{Awaits}
use Rattle.records.specs.declared.Records.{Records}
use Rattle.packages.specs.Package.{head4, listed, commands_in}
use Rattle.listing.specs.declared.Listing.{Listing}
use Rattle.listing.specs.Listing.{listing, items_of}
use Rattle.listing.proofs.ListingLaws.{listing_items}
use Rattle.server_changes.specs.Step4.{Changed}
use Rattle.server_merge.specs.Merge.{merged, merged_by, statuses_for}
use Rattle.server_offers.specs.Offer.{offers, command, commands, offered}
use Rattle.server_rules.specs.Took.{taken, server_with}
use Rattle.server_rules.proofs.merge_all.Goals as goal

pub returns : goal.returns
unfolding commands
returns c =
    let a = c.args in
    let s = a.server.now in
    let p = a.p.now in
    let left = c.merge-told.new.s in
    let r = s.records in
    let all : ◌≡◌ {A = Changed} (record { records = left; statuses = c.merge-told.result }) (merged_by s.rule a.mode (4 + p.answered) (commands_in p) r) =
    c.merge-told.ensures ∙ ap (λ (cs : List Entry). merged_by s.rule a.mode (4 + p.answered) cs r) c.commands.ensures.kept in
    let after : left ≡ merged s.rule a.mode (commands_in p) r = ap (λ (d : Changed). d.records) all in
    let told : c.merge-told.result ≡ listing (statuses_for s.rule a.mode (4 + p.answered) (commands_in p) r) = ap (λ (d : Changed). d.statuses) all in
    let sent : c.commands_of-commands.result ≡ listing (commands (merged s.rule a.mode (commands_in p) r)) =
    c.commands_of-commands.ensures
    ∙ ap (λ (os : List Entry). listing (map command os)) (c.as_slice.ensures ∙ ap items_of c.offers_of-offers.ensures ∙ listing_items (offers left))
    ∙ ap (λ (q : Records). listing (commands q)) after in
    let content : c.package_of.result ≡ listed (head4 s.link.session (3 + p.answered)) (listing (statuses_for s.rule a.mode (4 + p.answered) (commands_in p) r)) (listing (commands (merged s.rule a.mode (commands_in p) r))) =
    c.package_of.ensures
    ∙ ap (λ (h : Head). listed h c.merge-told.result c.commands_of-commands.result) c.head_4.ensures
    ∙ ap₂ (λ (x y : Listing). listed (head4 s.link.session (3 + p.answered)) x y) told sent in
    ap₂ (λ (q : Records) (x : Content). taken (server_with s.rule q s.link.anchor s.link.session (Awaits.Five p.commanded)) x) (c.all_offered.ensures ∙ ap offered after) content
