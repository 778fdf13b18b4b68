-- The server's commands in Pkg 4 are in the written form: each names a LUID or a GUID that is one, with a text that keeps the text rule. Assumes nothing.
use Prim.Native.Nat.{ℕ}
use mathlib.Core.Path.{◌≡◌, sym, ◌∙◌, subst}
use mathlib.Core.Bool.{true, not}
use mathlib.Core.List.{◌++◌}
use native.Mathlib.Omega.{arith}
use lib.Dec.{eqb}
use lib.ListN.{get_or}
use borrow.Author.Tests.{eqb-false, not-true, not-false}
use Rattle.places.proofs.Choice.{and_chosen, and_second}
use Rattle.records.specs.declared.Record.{Record}
use Rattle.records.specs.declared.Records.{Records}
use Rattle.records.specs.Server.{no_record, is_live, WellFormed}
use Rattle.lists.specs.declared.Entry.{Entry}
use Rattle.message.specs.Message.{server_commands}
use Rattle.places.proofs.Every.{Every, every, every_map, every_append}
use Rattle.statuses.specs.declared.Name.{Name}
use Rattle.statuses.specs.declared.Name.TheVariants.{Delete, Replace, Add}
use Rattle.record_moves.specs.Named.{is_paired}
use Rattle.sendable.specs.Sendable.{CardNumber, Sendable}
use Rattle.sendable.proofs.ElementLaws.{server_delete_lem, server_replace, server_add_lem}
use Rattle.server_offers.specs.Offer.{is_waiting, is_offered_as, offer, offers_of, offers, command_of, command, commands}
use Rattle.server_offers.proofs.OfferLaws.{IsDue, offer_at, offered_only, command_same}
use Rattle.server_sends.specs.InRange.{RecordInRange}
use Rattle.server_sends.proofs.ForgottenLaws.{Remembered}
use Rattle.server_sends.proofs.StepLaws.{Ready}

-- ---- a LUID that is there is one
paired_luid : (x : Record) → is_paired x ≡ true → RecordInRange x → CardNumber x.pairing.luid.0
paired_luid x e h =
    let some-luid = eqb-false x.pairing.luid.0 0 (not-true (eqb x.pairing.luid.0 0) e) in
    (omega (arith, some-luid), h.0)

-- a deleted record that is remembered is paired
deleted_paired : (x : Record) → is_offered_as Delete x ≡ true → Remembered x → is_paired x ≡ true
deleted_paired x e r = not-false (is_paired x) (sym (and_chosen (not (is_live x.pairing.mark)) (not (is_paired x)) e) ∙ r)

module _ (c : Records) (h : Ready c) (f : WellFormed c) where
  -- ---- the command of the record in place j, by its name
  module _ (j : ℕ) where
    abbrev this : Record
    this = get_or c.places j no_record

    sendable : (m : Name) → IsDue m c j → Sendable server_commands (command_of m (offer m this))
    sendable Delete d =
        let k = h.fine.each j d.used in
        server_delete_lem this.pairing.luid (paired_luid this (deleted_paired this d.passes k.1) k.0)
    sendable Replace d =
        let k = h.fine.each j d.used in
        server_replace this.pairing.luid (paired_luid this (and_second (is_waiting this.pairing.mark) (is_paired this) d.passes) k.0) this.wording (f.records j d.used)
    sendable Add d =
        let s = h.fine.sound in
        let most = s.given j d.used in
        server_add_lem this.guid this.wording (s.least j d.used, omega (arith, most, h.guids)) (f.records j d.used)

  -- ---- all commands
  abbrev Fits : Entry → Type 0
  Fits o = Sendable server_commands (command o)

  each_fits : (m : Name) → Every Fits (offers_of m c)
  each_fits m =
      every (λ o. (j : ℕ) × IsDue m c j × (o ≡ offer_at m c j)) Fits
      (λ o w. subst Fits (sym w.2) (subst (Sendable server_commands) (sym (command_same m (this w.0))) (sendable w.0 m w.1)))
      (offers_of m c) (offered_only m c)

  pub commands_sendable : Every (Sendable server_commands) (commands c)
  unfolding commands offers
  commands_sendable =
      every_map command (Sendable server_commands) (offers_of Delete c ++ (offers_of Replace c ++ offers_of Add c))
      (every_append Fits (offers_of Replace c ++ offers_of Add c) (offers_of Delete c) (each_fits Delete)
      (every_append Fits (offers_of Add c) (offers_of Replace c) (each_fits Replace) (each_fits Add)))
