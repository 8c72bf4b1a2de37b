-- unprinted_number    the number by which a call that printed nothing is reported
-- unprinted_words     why it printed nothing
use Rattle.std.specs.Prelude.{ℕ, List, codes}
use Rattle.recording.specs.declared.printing.Unprinted.{Unprinted}
use Rattle.recording.specs.declared.printing.Unprinted.TheVariants.{PageTooShort, NoMemory}

abbrev pub unprinted_number : Unprinted → ℕ
unprinted_number PageTooShort = 15
unprinted_number NoMemory = 0

abbrev pub unprinted_words : Unprinted → List ℕ
unprinted_words PageTooShort = codes "the page is too short"
unprinted_words NoMemory = codes "no memory"
