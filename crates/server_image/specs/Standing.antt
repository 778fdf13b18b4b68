-- A server that stands in an image is in range, whoever wrote the bytes.
use Rattle.std.specs.Prelude.{ℕ, Some, ◌≡◌, List, length}
use mathlib.Core.Path.{subst}
use Rattle.places.specs.Set.{all_places}
use Rattle.records.specs.declared.Server.{Server}
use Rattle.image.specs.Keeping.{standing}
use Rattle.image.proofs.FlatLaws.{each_long}
use Rattle.image.proofs.KeepingLaws.{standing_is}
use Rattle.server_sends.specs.InRange.{ServerInRange}
use Rattle.server_range.proofs.RangeLaws.{tested_server}
use Rattle.server_image.specs.Image.{head_size, record_size, record_in, server_in, server_keeping}

places_long : (s : List ℕ) → length (server_in s).records.places ≡ all_places
unfolding server_in
places_long s = each_long record_in record_size s head_size all_places

pub standing_in_range : (s : List ℕ) (p : Server) → standing server_keeping s ≡ Some p → ServerInRange p
standing_in_range s p h =
    let x = standing_is server_keeping s p h in
    tested_server p (subst (λ (q : Server). length q.records.places ≡ all_places) x.read (places_long s)) x.tested
