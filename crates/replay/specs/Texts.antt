-- What a judgement and an answer say, as bytes and as numbers.
-- word_text       the word of a verdict
-- name_text       an action's thread and its position, with one space between them
-- verdict_text    the word of a verdict, how many names its list begins with, and how many threads delayed a store
-- call_text       a move as it is; `start over`; `judge` and the number of places
-- answer_number   the number by which an answer is reported: a refusal's own, and 0 for all that was not refused
use Rattle.std.specs.Prelude.{ℕ, List, ◌++◌, codes, decimal}
use Rattle.refusal.specs.Refusals.{number_of}
use Rattle.ledger.specs.Texts.{move_text}
use Rattle.replay.specs.declared.calls.Answer.{Answer}
use Rattle.replay.specs.declared.calls.Answer.TheVariants.{Moved, StartedOver, Judged, Refused}
use Rattle.replay.specs.declared.calls.Call.{Call}
use Rattle.replay.specs.declared.calls.Call.TheVariants.{Offer, StartOver, Judge}
use Rattle.replay.specs.declared.names.Name.{Name}
use Rattle.replay.specs.declared.verdicts.Verdict.{Verdict}
use Rattle.replay.specs.declared.verdicts.Word.{Word}
use Rattle.replay.specs.declared.verdicts.Word.TheVariants.{Sequential, Violation}

abbrev pub word_text : Word → List ℕ
word_text Sequential = codes "sequential"
word_text Violation = codes "violation"

abbrev pub name_text : Name → List ℕ
name_text a = decimal a.thread ++ (codes " " ++ decimal a.position)

abbrev pub verdict_text : Verdict → List ℕ
verdict_text v = word_text v.word ++ (codes " " ++ (decimal v.entries ++ (codes " " ++ decimal v.delayed)))

abbrev pub call_text : Call → List ℕ
call_text (Offer m) = move_text m
call_text StartOver = codes "start over"
call_text (Judge places) = codes "judge " ++ decimal places

abbrev pub answer_number : Answer → ℕ
answer_number (Moved v) = 0
answer_number StartedOver = 0
answer_number (Judged v list) = 0
answer_number (Refused r) = number_of r
