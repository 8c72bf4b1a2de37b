-- When all the answers to a list of calls are true: a law over the whole list, in terms of the ledger, the program's lines and the
-- rules of the buffer's kind alone.
-- history           the moves accepted since the last start: each accepted move joins them, a fresh start forgets them
-- as_answer         the answer to a move, by its outcome
-- TrueVerdict       what makes a verdict true of those moves: `sequential` exactly if some sequentially consistent run of the program
--                   has their trace, and then the list is such a run, every action once, each place with the lowest thread that
--                   could come next; `violation` otherwise, and then the list is a ring of the trace's edges, of two or more
--                   different actions, the lowest first; and how many threads delayed a store of their own
-- Right             what makes an answer right, after those moves
-- VerdictsTrue      there is an answer to each call, and each is right after the moves accepted so far
use Rattle.std.specs.Prelude.{◌≡◌, ℕ, ◌<◌, List, [], ◌∷◌, ◌++◌, map, length, take, Some, None, Ok, Err, vec_items, Option, Result, slice_index_or}
use Rattle.refusal.specs.declared.Refusal.{Refusal}
use Rattle.program.specs.declared.lines.Line.{Line}
use Rattle.buffers.specs.Laws.{Rules}
use Rattle.ledger.specs.Actions.{Name as Name'}
use Rattle.ledger.specs.Answers.{outcome}
use Rattle.ledger.specs.Delays.{delaying}
use Rattle.ledger.specs.Edges.{Trace, trace_of}
use Rattle.ledger.specs.Judgements.{judge_tested}
use Rattle.ledger.specs.Moves.{ledger_of}
use Rattle.ledger.specs.Theorems.{HasRun}
use Rattle.ledger.specs.Verdicts.{ListsRun, ShowsRing}
use Rattle.ledger.specs.declared.moves.Move.{Move}
use Rattle.replay.specs.Names.{name_of}
use Rattle.replay.specs.declared.calls.Answer.{Answer}
use Rattle.replay.specs.declared.calls.Answer.TheVariants.{Moved, StartedOver, Judged, Refused}
use Rattle.replay.specs.declared.calls.Call.{Call}
use Rattle.replay.specs.declared.calls.Call.TheVariants.{Offer, StartOver, Judge}
use Rattle.replay.specs.declared.verdicts.Verdict.{Verdict}
use Rattle.replay.specs.declared.verdicts.Word.{Word}
use Rattle.replay.specs.declared.verdicts.Word.TheVariants.{Sequential, Violation}

abbrev pub joined_if_moved : List Move → Move → Answer → List Move
joined_if_moved ms m (Moved v) = ms ++ m ∷ []
joined_if_moved ms m StartedOver = ms
joined_if_moved ms m (Judged v list) = ms
joined_if_moved ms m (Refused r) = ms

abbrev pub after_call : List Move → Call → Answer → List Move
after_call ms (Offer m) a = joined_if_moved ms m a
after_call ms StartOver a = []
after_call ms (Judge places) a = ms

-- the moves accepted since the last start, where ms were when these calls began
abbrev pub since : List Move → List Call → List Answer → List Move
since ms [] answers = ms
since ms (c ∷ calls) [] = ms
since ms (c ∷ calls) (a ∷ answers) = since (after_call ms c a) calls answers

abbrev pub history : List Call → List Answer → List Move
history calls answers = since [] calls answers

abbrev pub as_answer : Result ℕ Refusal → Answer
as_answer (Ok v) = Moved v
as_answer (Err r) = Refused r

-- what the word says of the trace, with the names that are listed
abbrev pub TrueWord : Word → List Line → Trace → List Name' → Type 0
TrueWord Sequential ls x names = ListsRun ls x names
TrueWord Violation ls x names = ShowsRing ls x names

pub record TrueVerdict (ls : List Line) (ms : List Move) (v : Verdict) (names : List Name') : Type 0 where
  pub sequential : v.word ≡ Sequential → HasRun ls (trace_of (ledger_of ls ms))
  pub only : HasRun ls (trace_of (ledger_of ls ms)) → v.word ≡ Sequential
  pub list : TrueWord v.word ls (trace_of (ledger_of ls ms)) names
  pub entries : v.entries ≡ length names
  pub delayed : v.delayed ≡ delaying ls ms

abbrev pub TrulyJudged : List Line → List Move → Answer → Type 0
TrulyJudged ls ms (Moved v) = ⊥
TrulyJudged ls ms StartedOver = ⊥
TrulyJudged ls ms (Judged v list) = TrueVerdict ls ms v (map name_of (vec_items list))
TrulyJudged ls ms (Refused r) = ⊥

abbrev pub RightlyJudged : Option Refusal → List Line → List Move → Answer → Type 0
RightlyJudged None ls ms a = TrulyJudged ls ms a
RightlyJudged (Some r) ls ms a = a ≡ Refused r

abbrev pub Right : Rules → List Line → List Move → Call → Answer → Type 0
Right rules ls ms (Offer m) a = a ≡ as_answer (outcome rules ls (ledger_of ls ms) m)
Right rules ls ms StartOver a = a ≡ StartedOver
Right rules ls ms (Judge places) a = RightlyJudged (judge_tested (ledger_of ls ms) places) ls ms a

pub record VerdictsTrue (rules : Rules) (ls : List Line) (calls : List Call) (answers : List Answer) : Type 0 where
  pub many : length answers ≡ length calls
  pub each : (k : ℕ) → k < length calls → Right rules ls (history (take k calls) (take k answers)) (slice_index_or calls k StartOver) (slice_index_or answers k StartedOver)
