-- A judgement into a list that is long enough for every run, as an answer.
use Rattle.std.proofs.Common.{◌≡◌, ℕ, ◌≤◌, min, Bool, true, false, List, map, length, take, Ok, Err, Result, vec_items, MatchBool, Vec, ap, ◌∙◌, arith}
use Rattle.std.specs.declared.alloc.Global.{Global}
use Rattle.refusal.specs.declared.Refusal.{Refusal}
use Rattle.refusal.specs.declared.Refusal.TheVariants.{StoreWaits}
use Rattle.buffers.specs.Lists.{nothing_waits}
use Rattle.present.specs.Data.{Held, how_many_in}
use Rattle.replay.specs.Names.{name_of}
use Rattle.replay.specs.Performed.{JudgedAs, JudgedNow}
use Rattle.replay.specs.Verdicts.{JudgedHeld, JudgedIn}
use Rattle.replay.specs.declared.calls.Answer.TheVariants.{Judged, Refused}
use Rattle.replay.specs.declared.names.Name.{Name}
use Rattle.replay.specs.declared.verdicts.Verdict.{Verdict}

-- A verdict is answered with the names at the front of the list.
pub verdict_as : (h : Held) (places : ℕ) (before after : List Name) (v : Verdict) (list : Vec Name Global) → length before ≡ min places 256 → vec_items list ≡ take v.entries after → JudgedHeld h before (Ok v) after → JudgedAs h places (Judged v list)
verdict_as h places before after v list sized front = go (nothing_waits h.lists)
  where
    go : (b : Bool) → MatchBool b (JudgedIn h.own before (Ok v) after) ((Ok v ≡ Err StoreWaits) × (after ≡ before)) → MatchBool b (JudgedNow h.own places (Judged v list)) (Judged v list ≡ Refused StoreWaits)
    go true so = (
      omega (arith, so.0, sized),
      record {
        numbers = so.1.numbers;
        found = so.1.found;
        entries = so.1.entries;
        list = ap (map name_of) front ∙ so.1.list;
        delayed = so.1.delayed;
      },
    )
    go false so = absurd (let z : ◌≡◌ {A = ℕ} 0 1 = cc so.0 in omega (arith, z))

-- A refusal is answered as it is.
pub refused_as : (h : Held) (places : ℕ) (before after : List Name) (r : Refusal) → how_many_in h.own ≤ 256 → length before ≡ min places 256 → JudgedHeld h before (Err r) after → JudgedAs h places (Refused r)
refused_as h places before after r few sized = go (nothing_waits h.lists)
  where
    go : (b : Bool) → MatchBool b (JudgedIn h.own before (Err r) after) ((◌≡◌ {A = Result Verdict Refusal} (Err r) (Err StoreWaits)) × (after ≡ before)) → MatchBool b (JudgedNow h.own places (Refused r)) (Refused r ≡ Refused StoreWaits)
    go true so = (omega (arith, so.0, sized, few), so.1)
    go false so = ap Refused (let same : r ≡ StoreWaits = cc so.0 in same)
