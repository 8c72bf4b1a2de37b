-- How long a printed verdict and a printed fault can be.
use Rattle.std.proofs.Common.{◌≡◌, ℕ, ◌+◌, ◌*◌, ◌^◌, ◌<◌, ◌≤◌, Bool, true, false, cond, ◌&&◌, List, [], ◌∷◌, ◌++◌, map, length, take, Some, Ok, Err, codes, decimal, sym, refl, ap, subst, inl, inr, ⊎_elim, arith}
use Rattle.std.specs.List.{All}
use Rattle.std.proofs.lemmas.Fmt.{length-decimal-le}
use Rattle.std.proofs.lemmas.List.{length-append, length-map}
use Rattle.std.proofs.lemmas.List.Elements.{All-cons, All-head, All-nil, All-tail}
use Rattle.std.proofs.lemmas.Bool.{and_parts, cases_lt, ltb-true}
use Rattle.refusal.specs.Refusals.{layer_of, number_of}
use Rattle.refusal.specs.Texts.{layer_text, refusal_text}
use Rattle.refusal.specs.declared.Layer.{Layer}
use Rattle.refusal.specs.declared.Layer.TheVariants.{Program, Buffer, Replay, Recording}
use Rattle.refusal.specs.declared.Refusal.{Refusal}
use Rattle.refusal.specs.declared.Refusal.TheVariants.{ProgramFull, FieldOutOfRange, ThreadOutOfRange, NoSuchInstruction, AtAnotherLabel, RunFull, ThreadNotFree, FenceBeforeDrain, CellOutOfRange, AssertFailed, BufferFull, DrainNotFree, StoreNotWaiting, StoreWaits, TooShort, RecordCutShort, RecordUnknown, RecordOutOfPlace}
use Rattle.program.specs.declared.lines.Line.{Line}
use Rattle.ledger.specs.Actions.{Name as Name'}
use Rattle.ledger.specs.Delays.{delaying, delays}
use Rattle.ledger.specs.Edges.{Trace, edge, is_action, trace_of}
use Rattle.ledger.specs.Ledgers.{Ledger, start}
use Rattle.ledger.specs.Moves.{ledger_of}
use Rattle.ledger.specs.Orders.{InOrder}
use Rattle.ledger.specs.Tests.{how_many, sum_over, threads}
use Rattle.ledger.specs.Theorems.{Chained}
use Rattle.ledger.specs.Verdicts.{ListsRing}
use Rattle.ledger.specs.declared.moves.Move.{Move}
use Rattle.ledger.proofs.Counts.{one_of_all}
use Rattle.ledger.proofs.Draining.{sound_moves}
use Rattle.ledger.proofs.Sound.{Sound, sound_start}
use Rattle.replay.specs.Names.{name_of}
use Rattle.replay.specs.Texts.{name_text, word_text}
use Rattle.replay.specs.Truth.{TrueVerdict, TrueWord}
use Rattle.replay.specs.declared.names.Name.{Name}
use Rattle.replay.specs.declared.verdicts.Verdict.{Verdict}
use Rattle.replay.specs.declared.verdicts.Word.{Word}
use Rattle.replay.specs.declared.verdicts.Word.TheVariants.{Sequential, Violation}
use Rattle.recording.specs.Meaning.{Reading, fault, reading, rules_of, whole}
use Rattle.recording.specs.Texts.{TextOf, fault_text, first_line, name_lines, verdict_text}
use Rattle.recording.specs.Verdicts.{ReadAs, TrulyRead, faulty}
use Rattle.recording.specs.declared.faults.Failure.TheVariants.{At}
use Rattle.recording.specs.declared.faults.Fault.{Fault}
use Rattle.recording.proofs.Accepting.{accepted_moves, rules_lawful}

-- Nothing or one for each of the numbers is at most as many as they are.
sum_at_most : (f : ℕ → ℕ) → ((t : ℕ) → f t ≤ 1) → (us : List ℕ) → sum_over f us ≤ length us
sum_at_most f each [] = omega arith
sum_at_most f each (u ∷ us) = let rest : sum_over f us ≤ length us = sum_at_most f each us in omega (arith, rest, each u)

-- One or nothing is at most one.
one_or_none : (b : Bool) → cond b 1 0 ≤ 1
one_or_none true = omega arith
one_or_none false = omega arith

-- At most eight threads delay a store.
few_delaying : (ls : List Line) (ms : List Move) → delaying ls ms ≤ 8
few_delaying ls ms = sum_at_most (λ t. cond (delays ls start t ms) 1 0) (λ t. one_or_none (delays ls start t ms)) threads

-- an action of one of eight threads with at most 256 actions
abbrev Small : Name' → Type 0
Small a = (a.thread < 8) × (a.position < 256)

-- Every action is one of a thread in range, and not past the most.
small_action : (ls : List Line) (l : Ledger) → Sound ls l → (a : Name') → is_action (trace_of l) a ≡ true → Small a
small_action ls l sound a is =
    let within : a.position < length (l.actions a.thread) = ltb-true a.position (length (l.actions a.thread)) is in
    let in_range : a.thread < 8 =
    ⊎_elim (λ below. below)
    (λ past. let none : length (l.actions a.thread) ≡ 0 = ap length (sound.in_range a.thread past) in absurd (omega (arith, none, within))) (cases_lt a.thread 8) in
    let own : length (l.actions a.thread) ≤ how_many l = one_of_all (λ t. length (l.actions t)) a.thread in_range in
    (in_range, omega (arith, within, own, sound.few))

-- What is in order are actions.
ordered_actions : (x : Trace) (placed rest : List Name') → InOrder x placed rest → All (λ a. is_action x a ≡ true) rest
ordered_actions x placed [] order = All-nil (λ b. is_action x b ≡ true)
ordered_actions x placed (b ∷ rest) order = All-cons (λ a. is_action x a ≡ true) b rest order.0 (ordered_actions x (placed ++ b ∷ []) rest order.3)

-- An edge leads from an action to an action.
edge_actions : (x : Trace) (a b : Name') → edge x a b ≡ true → (is_action x a ≡ true) × (is_action x b ≡ true)
edge_actions x a b is = and_parts (is_action x a) (is_action x b) (and_parts (is_action x a && is_action x b) _ is).0

-- What is chained are actions.
chained_actions : (x : Trace) (a : Name') (names : List Name') (z : Name') → Chained x a names z → All (λ b. is_action x b ≡ true) (a ∷ names)
chained_actions x a [] z chain = All-cons (λ b. is_action x b ≡ true) a [] (edge_actions x a z chain).0 (All-nil (λ b. is_action x b ≡ true))
chained_actions x a (b ∷ names) z chain = All-cons (λ b. is_action x b ≡ true) a (b ∷ names) (edge_actions x a b chain.0).0 (chained_actions x b names z chain.1)

-- What is listed as a ring are actions.
ring_actions : (x : Trace) (names : List Name') → ListsRing x names → All (λ b. is_action x b ≡ true) names
ring_actions x [] ring = absurd ring
ring_actions x (a ∷ []) ring = absurd ring
ring_actions x (a ∷ b ∷ names) ring = chained_actions x a (b ∷ names) a ring.0

-- What a verdict lists are actions.
listed_actions : (w : Word) (ls : List Line) (x : Trace) (names : List Name') → TrueWord w ls x names → All (λ b. is_action x b ≡ true) names
listed_actions Sequential ls x names is = ordered_actions x [] names is.order.ordered
listed_actions Violation ls x names is = ring_actions x names is.ring

-- The line of a name is at most 6 bytes long.
short_line : (a : Name) → Small (name_of a) → length (name_text a ++ codes "\n") ≤ 6
short_line a small =
    let thread : length (decimal a.thread) ≤ 1 = length-decimal-le 1 a.thread (omega arith) (omega (arith, small.0)) (omega (arith, small.0)) in
    let position : length (decimal a.position) ≤ 3 = length-decimal-le 3 a.position (omega arith) (omega (arith, small.1)) (omega (arith, small.1)) in
    simp length-append (omega (arith, thread, position))

-- The lines of names that name actions are that long each.
short_lines : (x : Trace) → ((a : Name') → is_action x a ≡ true → Small a) → (names : List Name) → All (λ b. is_action x b ≡ true) (map name_of names) → length (name_lines names) ≤ 6 * length names
short_lines x small [] actions = omega arith
short_lines x small (a ∷ names) actions =
    let here : length (name_text a ++ codes "\n") ≤ 6 = short_line a (small (name_of a) (All-head (λ b. is_action x b ≡ true) (name_of a) (map name_of names) actions)) in
    let rest : length (name_lines names) ≤ 6 * length names = short_lines x small names (All-tail (λ b. is_action x b ≡ true) (name_of a) (map name_of names) actions) in
    let whole : length (name_lines (a ∷ names)) ≡ length (name_text a ++ codes "\n") + length (name_lines names) = length-append (name_text a ++ codes "\n") (name_lines names) in
    omega (arith, here, rest, whole)

-- The word is at most 10 bytes long.
short_word : (w : Word) → length (word_text w) ≤ 10
short_word Sequential = omega arith
short_word Violation = omega arith

-- The first line is at most 17 bytes long.
short_first : (v : Verdict) → v.entries ≤ 256 → v.delayed ≤ 8 → length (first_line v) ≤ 17
short_first v few delayed =
    let word = short_word v.word in
    let entries : length (decimal v.entries) ≤ 3 = length-decimal-le 3 v.entries (omega arith) (omega arith) (omega arith) in
    let threads : length (decimal v.delayed) ≤ 1 = length-decimal-le 1 v.delayed (omega arith) (omega arith) (omega arith) in
    simp length-append (omega (arith, word, entries, threads))

-- A true verdict of at most 256 entries fits a page.
pub short_verdict : (bs : List ℕ) (places : ℕ) (v : Verdict) (names : List Name) → TrulyRead (reading bs) places v (map name_of names) → v.entries ≤ 256 → length (verdict_text v names) ≤ 2048
short_verdict bs places v names = go (reading bs) refl
  where
    go : (read : Reading) → reading bs ≡ read → TrulyRead read places v (map name_of names) → v.entries ≤ 256 → length (verdict_text v names) ≤ 2048
    go (fault r n b) is true_of few = absurd true_of
    go (whole s ls ms n) is true_of few =
        let verdict : TrueVerdict ls ms v (map name_of names) = true_of.1 in
        let sound = sound_moves (rules_of s) (rules_lawful s) ls ms start (sound_start ls) (accepted_moves bs s ls ms n is) in
        let x = trace_of (ledger_of ls ms) in
        let actions = listed_actions v.word ls x (map name_of names) verdict.list in
        let lines : length (name_lines names) ≤ 6 * length names = short_lines x (small_action ls (ledger_of ls ms) sound) names actions in
        let delayed : v.delayed ≤ 8 = omega (arith, verdict.delayed, few_delaying ls ms) in
        let first = short_first v few delayed in
        let many : length (map name_of names) ≡ length names = length-map names name_of in
        let all : length (verdict_text v names) ≡ length (first_line v) + length (name_lines names) = length-append (first_line v) (name_lines names) in
        omega (arith, lines, first, many, all, verdict.entries, few)

-- The number of a refusal has at most two digits.
number_small : (r : Refusal) → number_of r < 100
number_small ProgramFull = omega arith
number_small FieldOutOfRange = omega arith
number_small ThreadOutOfRange = omega arith
number_small NoSuchInstruction = omega arith
number_small AtAnotherLabel = omega arith
number_small RunFull = omega arith
number_small ThreadNotFree = omega arith
number_small FenceBeforeDrain = omega arith
number_small CellOutOfRange = omega arith
number_small AssertFailed = omega arith
number_small BufferFull = omega arith
number_small DrainNotFree = omega arith
number_small StoreNotWaiting = omega arith
number_small StoreWaits = omega arith
number_small TooShort = omega arith
number_small RecordCutShort = omega arith
number_small RecordUnknown = omega arith
number_small RecordOutOfPlace = omega arith

-- The word of a layer is at most 9 bytes long.
short_layer : (l : Layer) → length (layer_text l) ≤ 9
short_layer Program = omega arith
short_layer Buffer = omega arith
short_layer Replay = omega arith
short_layer Recording = omega arith

-- A refusal's text is at most 12 bytes long.
short_refusal : (r : Refusal) → length (refusal_text r) ≤ 12
short_refusal r =
    let small = number_small r in
    let number : length (decimal (number_of r)) ≤ 2 = length-decimal-le 2 (number_of r) (omega arith) (omega (arith, small)) (omega (arith, small)) in
    let layer = short_layer (layer_of r) in
    simp length-append (omega (arith, number, layer))

-- A fault whose numbers have 64 bits fits a page.
pub short_fault : (f : Fault) → f.place.index < 2 ^ 64 → f.place.byte < 2 ^ 64 → length (fault_text f) ≤ 2048
short_fault f index byte =
    let refusal = short_refusal f.refusal in
    let first : length (decimal f.place.index) ≤ 20 = length-decimal-le 20 f.place.index (omega arith) (omega (arith, index)) index in
    let second : length (decimal f.place.byte) ≤ 20 = length-decimal-le 20 f.place.byte (omega arith) (omega (arith, byte)) byte in
    simp length-append (omega (arith, simp length-append at refusal, first, second))

-- What the verdict's text says, and that it fits a page.
pub verdict_said : (bs : List ℕ) (before after : List Name) (v : Verdict) (text : List ℕ) → length before ≡ 256 → length after ≡ 256 → ReadAs (reading bs) (length bs) before (Ok v) after → text ≡ verdict_text v (take v.entries after) → TextOf bs text
verdict_said bs before after v text places same written is =
    let names = take v.entries after in
    let true_of : TrulyRead (reading bs) 256 v (map name_of names) = subst (λ n. TrulyRead (reading bs) n v (map name_of names)) places written.true_of in
    let few : v.entries ≤ 256 = omega (arith, written.within, same) in
    record {
      says = inl (record { verdict = v; names = names; true_of = true_of; is = is });
      bound = subst (λ (l : List ℕ). length l ≤ 2048) (sym is) (short_verdict bs 256 v names true_of few);
    }

-- What the fault's text says, and that it fits a page.
pub fault_said : (bs : List ℕ) (before after : List Name) (f : Fault) (text : List ℕ) → length before ≡ 256 → f.place.index < 2 ^ 64 → f.place.byte < 2 ^ 64 → ReadAs (reading bs) (length bs) before (Err (At f)) after → text ≡ fault_text f → TextOf bs text
fault_said bs before after f text full index byte read is = record {
  says = inr (record { at = f; found = subst (λ n. faulty (reading bs) (length bs) n ≡ Some f) full read.0; is = is });
  bound = subst (λ (l : List ℕ). length l ≤ 2048) (sym is) (short_fault f index byte);
}
