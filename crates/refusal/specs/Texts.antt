-- How a refusal is reported, as bytes.
-- layer_text l      the layer's word
-- refusal_text r    the refusal's number, a space, and the word of its layer
use Rattle.std.specs.Prelude.{ℕ, List, ◌++◌, codes, decimal}
use Rattle.refusal.specs.declared.Refusal.{Refusal}
use Rattle.refusal.specs.declared.Layer.{Layer}
use Rattle.refusal.specs.declared.Layer.TheVariants.{Program, Buffer, Replay, Recording}
use Rattle.refusal.specs.Refusals.{number_of, layer_of}

abbrev pub layer_text : Layer → List ℕ
layer_text Program = codes "program"
layer_text Buffer = codes "buffer"
layer_text Replay = codes "replay"
layer_text Recording = codes "recording"

abbrev pub refusal_text : Refusal → List ℕ
refusal_text r = decimal (number_of r) ++ (codes " " ++ layer_text (layer_of r))
