-- Refusals that are told with their places.
use Rattle.std.proofs.Common.{◌≡◌, Ok, Err, Result, refl}
use Rattle.refusal.specs.declared.Refusal.{Refusal}
use Rattle.recording.specs.Steps.{placed_at}
use Rattle.recording.specs.Verdicts.{fault_at}
use Rattle.recording.specs.declared.faults.Failure.{Failure}
use Rattle.recording.specs.declared.faults.Failure.TheVariants.{At}
use Rattle.recording.specs.declared.faults.Place.{Place}

-- What is no refusal was answered as it is,
pub placed_ok : {T : Type 0} (p : Place) (o : Result T Refusal) (x : T) → Ok x ≡ placed_at p o → o ≡ Ok x
placed_ok p (Ok y) x is = cc
placed_ok p (Err r) x is = absurd cc

-- and a failure tells a refusal.
pub placed_err : {T : Type 0} (p : Place) (o : Result T Refusal) (e : Failure) → Err e ≡ placed_at p o → (r : Refusal) × (o ≡ Err r) × (e ≡ At (fault_at r p.index p.byte))
placed_err p (Ok y) e is = absurd cc
placed_err p (Err r) e is = (r, refl, cc)
