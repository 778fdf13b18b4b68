-- Step 2 keeps the server's table safe, whatever is deleted. Assumes nothing.
use mathlib.Core.Path.{refl}
use mathlib.Core.Logic.{inr}
use mathlib.Core.List.{List}
use Rattle.terms.specs.declared.Mode.{Mode}
use Rattle.terms.specs.declared.Mode.TheVariants.{Normal, Recovery}
use Rattle.records.specs.declared.Mark.{Mark}
use Rattle.records.specs.declared.Mark.TheVariants.{Clean, Dirty, Offered, Deleted}
use Rattle.records.specs.declared.Record.{Record}
use Rattle.records.specs.declared.Records.{Records}
use Rattle.lists.specs.declared.Entry.{Entry}
use Rattle.places.proofs.KeptLaws.{order_keeps}
use Rattle.record_moves.specs.Named.{is_named, Safe}
use Rattle.record_moves.proofs.SafeLaws.{MildSlot, act_safe, each_safe}
use Rattle.server_deletes.specs.Step2.{lost_by, lost, deleted, delete, deletes_of, left_out, step2}

lost_mild : (m : Mark) (x : Record) → MildSlot x (lost_by m x)
lost_mild Clean x = tt
lost_mild Deleted x = tt
lost_mild Dirty x = record { guid = refl; fine = λ p. p; luid = inr refl }
lost_mild Offered x = record { guid = refl; fine = λ p. p; luid = inr refl }

pub delete_safe : (c : Entry) (s : Records) → Safe s → Safe (delete c s)
unfolding delete
delete_safe c s h = act_safe s (is_named (deleted c)) lost (λ x e. lost_mild x.pairing.mark x) h

pub step2_safe : (m : Mode) (cs : List Entry) (s : Records) → Safe s → Safe (step2 m cs s)
unfolding step2
step2_safe Normal cs s h = order_keeps delete Safe delete_safe (deletes_of cs) s h
step2_safe Recovery cs s h = each_safe s (left_out cs) lost (λ x e. lost_mild x.pairing.mark x) h
