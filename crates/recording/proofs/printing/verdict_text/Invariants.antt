use Rattle.std.proofs.Common.{◌≡◌, ◌++◌, take, string_bytes}
use Rattle.recording.specs.Texts.{name_lines}
use Rattle.recording.proofs.printing.verdict_text.Given as goal

abbrev pub invariant-loop-name : goal.invariant-loop-name
invariant-loop-name l = string_bytes l.text ≡ string_bytes l.initial.text ++ name_lines (take l.name-index l.names)
