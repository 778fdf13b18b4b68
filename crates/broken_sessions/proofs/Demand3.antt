-- Demand 3 holds: on content, and by the public calls on bytes, with 32768 bytes or more lent. Assumes nothing.
use Prim.Native.Nat.{ℕ, ◌≤◌}
use mathlib.Core.Path.{refl}
use mathlib.Core.List.{List}
use lib.ListN.{length}
use Rattle.places.proofs.Every.{Every}
use Rattle.records.specs.declared.Rule.{Rule}
use Rattle.message.specs.declared.Content.{Content}
use Rattle.message.specs.Message.{limit}
use Rattle.course.specs.Course.{World}
use Rattle.course.specs.OnContent.{on_content}
use Rattle.demand3.specs.Demand3.{room_refused, NoneMissing, Reached, Demand3OnContent, Demand3OnBytes}
use Rattle.demand3.proofs.OnBytesLaws.{on_bytes_lem}
use Rattle.own_packages.proofs.Lawful as lawful
use Rattle.server_pairs.proofs.Step1.{step1_passes}
use Rattle.press_pairs.proofs.Pkg4.{inv_5}
use Rattle.press_pairs.proofs.Pkg5.{answers_fit, told_6}
use Rattle.press_pairs.proofs.NoneMissing.{none_missing}
use Rattle.whole_sessions.proofs.PackageLaws.{PackageLaws}
use Rattle.whole_sessions.proofs.Reached.{reached_good}
use Rattle.whole_sessions.proofs.OnContent.{demand}
use Rattle.broken_sessions.proofs.Again.{again_4, again_5, again_6}
use Rattle.broken_sessions.proofs.Near.{Near}
use Rattle.broken_sessions.proofs.FromNear.{near_4}
use Rattle.broken_sessions.proofs.NearEnd.{near_5, near_6, near_7, ends_same}
use Rattle.broken_sessions.proofs.Nears.{nears_5, nears_6, nears_7, in_step}
use Rattle.broken_sessions.proofs.Keeps.{kept}

-- under either rule
pub package_laws : (rule : Rule) → PackageLaws rule Near
package_laws rule =
    record {
      lawful_3 = λ n m c s h. lawful.lawful_3 m c h.formed n;
      lawful_4 = λ m p s h. lawful.lawful_4 m p.cards h.formed s h.safe (step1_passes p.cards s h) rule p refl p.session;
      fits_5 = λ n m c s h. lawful.fits_5 m c h.formed s h.safe (step1_passes c s h) rule n;
      answers_fit = answers_fit rule;
      none_missing = none_missing rule;
      inv_5 = inv_5 rule;
      told_6 = told_6 rule;
      again_4 = again_4 rule;
      again_5 = again_5 rule;
      again_6 = again_6 rule;
      nears_5 = nears_5 rule;
      nears_6 = nears_6 rule;
      nears_7 = nears_7 rule;
      near_4 = near_4 rule;
      near_5 = near_5 rule;
      near_6 = near_6 rule;
      near_7 = near_7 rule;
      ends = ends_same rule;
      even = in_step rule;
      kept = kept rule;
    }

pub demand3_on_content : Demand3OnContent
demand3_on_content = demand Near package_laws

pub demand3_on_bytes : (out : List ℕ) → limit ≤ length out → Demand3OnBytes out
demand3_on_bytes out room = on_bytes_lem out room demand3_on_content

-- and whatever was done, no status that was written says 404
pub never_404 : (w : World Content) → Reached on_content room_refused w → Every NoneMissing w.written
never_404 w r = (reached_good Near package_laws w r).written
