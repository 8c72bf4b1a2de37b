use Rattle.std.proofs.Common.{◌^◌, ◌<◌, string_bytes, refl, ap, ◌∙◌, rules}
use Rattle.recording.specs.Texts.{fault_text}
use Rattle.recording.proofs.Lengths.{fault_said, verdict_said}
use Rattle.recording.proofs.printing.text_of.Goals as goal

pub returns-in_ok-verdict_text-in-Ok : goal.returns-in_ok-verdict_text-in-Ok
returns-in_ok-verdict_text-in-Ok c =
    verdict_said c.args.recording.now _ c.judge_recording.new.list c.in-Ok.verdict (string_bytes c.in_ok-verdict_text-in-Ok.field-0) refl c.judge_recording.auto.list c.in-Ok.ensures c.in_ok-verdict_text-in-Ok.ensures

pub returns-in_ok-format-in-Err-At : goal.returns-in_ok-format-in-Err-At
returns-in_ok-format-in-Err-At c =
    let f = c.in-Err-At.fault in
    let index : f.place.index < 2 ^ 64 = search rules in
    let byte : f.place.byte < 2 ^ 64 = search rules in
    fault_said c.args.recording.now _ c.judge_recording.new.list f (string_bytes c.in_ok-format-in-Err-At.field-0) refl index byte (rw c.in-Err-At.field-0-is at c.in-Err-At.ensures) (c.in_ok-format-in-Err-At.ensures.ok ∙ ap fault_text c.in-Err-At.fault-is)
