use Rattle.std.proofs.Common.{◌≡◌, List, [], length, ap, ◌∙◌, subst}
use Rattle.program.specs.declared.lines.Line.{Line}
use Rattle.buffers.specs.Kinds.{strong}
use Rattle.recording.specs.Meaning.{chosen_by, rules_of}
use Rattle.recording.specs.Steps.{moving_from}
use Rattle.recording.specs.Verdicts.{ReadAs}
use Rattle.recording.proofs.reader.Reader.judge_over.Goals as goal

pub returns : goal.returns
returns g c =
    let bs = c.args.self.now.recording.now in
    let s = c.args.setup in
    let chosen = c.new.result.chosen in
    let rule : strong c.in_ok-replay.replay.buffer.chosen (g.B.StoreBuffer.rules c.in_ok-replay.replay.buffer.below) ≡ rules_of s =
    c.in_ok-replay.ensures.rules
    ∙ ap (λ xs. strong xs (g.B.StoreBuffer.rules c.new.result.below)) (c.new.ensures.chosen ∙ c.chosen_cells-chosen.ensures)
    ∙ ap (strong (chosen_by s.strong)) (ap g.B.StoreBuffer.rules c.new.ensures.below ∙ c.requires) in
    subst (λ (lines : List Line). ReadAs (moving_from bs c.args.self.now.place lines [] s) (length bs) c.args.list.now c.judge_moves.result c.judge_moves.new.list) c.in_ok-replay.ensures.program (c.judge_moves.ensures s rule)
