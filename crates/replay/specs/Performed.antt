-- What one call of a list answers, and what the replay holds after it, over what it holds now. Only private calls speak of it.
-- JudgedAs      a judgement into a list of so many places
-- Answered      any call
use Rattle.std.specs.Prelude.{◌≡◌, ℕ, ◌<◌, ◌≤◌, List, map, length, vec_items, MatchBool}
use Rattle.refusal.specs.declared.Refusal.TheVariants.{StoreWaits, TooShort}
use Rattle.program.specs.declared.lines.Line.{Line}
use Rattle.buffers.specs.Laws.{Rules}
use Rattle.buffers.specs.Lists.{nothing_waits}
use Rattle.present.specs.Calls.{after_offer_held, outcome_held}
use Rattle.present.specs.Data.{Held, Present, fresh_held, how_many_in}
use Rattle.present.specs.Joins.{delaying_in, node_named}
use Rattle.replay.specs.Names.{name_of}
use Rattle.replay.specs.Truth.{as_answer}
use Rattle.replay.specs.Verdicts.{FoundIn}
use Rattle.replay.specs.declared.calls.Answer.{Answer}
use Rattle.replay.specs.declared.calls.Answer.TheVariants.{Moved, StartedOver, Judged, Refused}
use Rattle.replay.specs.declared.calls.Call.{Call}
use Rattle.replay.specs.declared.calls.Call.TheVariants.{Offer, StartOver, Judge}
use Rattle.replay.specs.declared.names.Name.{Name}
use Rattle.replay.specs.declared.verdicts.Verdict.{Verdict}

pub record Told (own : Present) (v : Verdict) (names : List Name) : Type 0 where
  pub numbers : List ℕ
  pub found : FoundIn own v.word numbers
  pub entries : v.entries ≡ length numbers
  pub list : map name_of names ≡ map (node_named own) numbers
  pub delayed : v.delayed ≡ delaying_in own

abbrev pub JudgedNow : Present → ℕ → Answer → Type 0
JudgedNow own places (Moved v) = ⊥
JudgedNow own places StartedOver = ⊥
JudgedNow own places (Judged v list) = (how_many_in own ≤ places) × Told own v (vec_items list)
JudgedNow own places (Refused r) = (places < how_many_in own) × (r ≡ TooShort)

abbrev pub JudgedAs : Held → ℕ → Answer → Type 0
JudgedAs h places a = MatchBool (nothing_waits h.lists) (JudgedNow h.own places a) (a ≡ Refused StoreWaits)

abbrev pub Answered : Rules → List Line → Held → Call → Answer → Held → Type 0
Answered rules ls h (Offer m) a after = (a ≡ as_answer (outcome_held rules ls h m)) × (after ≡ after_offer_held rules ls h m)
Answered rules ls h StartOver a after = (a ≡ StartedOver) × (after ≡ fresh_held)
Answered rules ls h (Judge places) a after = JudgedAs h places a × (after ≡ h)
