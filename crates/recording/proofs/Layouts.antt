-- Reading the layout of records, and that it is read back.
use Rattle.std.proofs.Common.{◌≡◌, ℕ, zero, suc, ◌+◌, ◌*◌, ◌/◌, ◌%◌, ◌^◌, ◌<◌, ◌≤◌, Bool, true, false, cond, ◌&&◌, eqb, leb, List, [], ◌∷◌, ◌++◌, map, length, take, drop, Some, None, Ok, Err, Option, Result, sym, refl, ap, ◌∙◌, subst, mod-eq_of_lt, arith}
use native.Mathlib.Nat.{div-div-eq-div-mul}
use Rattle.std.specs.List.{range_with_len, All}
use Rattle.std.proofs.lemmas.Nat.{div-add-mod', div_below, div-mul-add, mod-mul-add}
use Rattle.std.proofs.lemmas.List.FromFn.{fill_by_all}
use Rattle.std.proofs.lemmas.List.Elements.{All-drop, All-get_or}
use Rattle.std.proofs.lemmas.List.{drop-drop, get_or-take, length-take-le, take-append-drop}
use Rattle.std.proofs.lemmas.Bool.{and_parts, cond-true, eqb-true, le-leb, leb-true}
use Rattle.refusal.specs.declared.Refusal.{Refusal}
use Rattle.refusal.specs.declared.Refusal.TheVariants.{RecordCutShort, RecordUnknown}
use Rattle.recording.specs.Layout.{Shape, body_at, body_bytes, body_size, byte, bytes_of, drain, fields_at, four_bytes, instruction, kind_at, kind_byte, kind_number, long, run, setup, setup_with, shape_of, shaped, size, two_bytes, word}
use Rattle.recording.specs.Readback.{ReadIsLayout, Readback, ReadsBack}
use Rattle.recording.specs.declared.records.Fields.{Fields}
use Rattle.recording.specs.declared.records.Kind.{Kind}
use Rattle.recording.specs.declared.records.Kind.TheVariants.{Direct, Queue, PerCell}
use Rattle.recording.specs.declared.records.Record.{Record}
use Rattle.recording.specs.declared.records.Record.TheVariants.{Setup, Instruction, Run, Drain}

-- The fields of an instruction, with these numbers for its operands.
abbrev with_operands : List ℕ → ℕ → ℕ → Fields
with_operands bs a' b' = record {
  thread = byte bs 0;
  label = byte bs 1;
  next = byte bs 2;
  form = byte bs 3;
  register = byte bs 4;
  operation = byte bs 5;
  tag_a = byte bs 6;
  tag_b = byte bs 7;
  a = a';
  b = b';
}

-- The two bytes of a number give it.
word_of_two : (n : ℕ) → n < 65536 → word (n % 256) (n / 256 % 256) ≡ n
word_of_two n h = omega (arith, h)

-- A number from its quotients and rests, one byte at a time.
adds_up : (n q₁ q₂ q₃ r₀ r₁ r₂ r₃ : ℕ) → q₁ * 256 + r₀ ≡ n → q₂ * 256 + r₁ ≡ q₁ → q₃ * 256 + r₂ ≡ q₂ → r₃ ≡ q₃ → long r₀ r₁ r₂ r₃ ≡ n
adds_up n q₁ q₂ q₃ r₀ r₁ r₂ r₃ e₀ e₁ e₂ e₃ = omega arith

-- The four bytes of a number give it.
long_of_four : (n : ℕ) → n < 2 ^ 32 → long (n % 256) (n / 256 % 256) (n / 65536 % 256) (n / 16777216 % 256) ≡ n
long_of_four n h =
    let second : n / 65536 * 256 + n / 256 % 256 ≡ n / 256 = ap (λ q. q * 256 + n / 256 % 256) (sym (div-div-eq-div-mul n 256 256)) ∙ div-add-mod' (n / 256) 256 in
    let third : n / 16777216 * 256 + n / 65536 % 256 ≡ n / 65536 = ap (λ q. q * 256 + n / 65536 % 256) (sym (div-div-eq-div-mul n 65536 256)) ∙ div-add-mod' (n / 65536) 256 in
    let top : n / 16777216 < 256 = div_below n 16777216 256 (omega arith) h in
    adds_up n (n / 256) (n / 65536) (n / 16777216) (n % 256) (n / 256 % 256) (n / 65536 % 256) (n / 16777216 % 256) (div-add-mod' n 256) second third (mod-eq_of_lt top)

-- The quotient and the rest of a number written by both.
place : (n w high low : ℕ) → low < w → n ≡ high * w + low → (n / w ≡ high) × (n % w ≡ low)
place n w high low h e = (ap (λ m. m / w) e ∙ div-mul-add high w low h, ap (λ m. m % w) e ∙ mod-mul-add high w low h)

-- The two bytes of a number that two bytes give are those.
two_of_word : (b₀ b₁ : ℕ) → b₀ < 256 → b₁ < 256 → two_bytes (word b₀ b₁) ≡ b₀ ∷ b₁ ∷ []
two_of_word b₀ b₁ h₀ h₁ =
    let low = place (word b₀ b₁) 256 b₁ b₀ h₀ (omega arith) in
    let high : word b₀ b₁ / 256 % 256 ≡ b₁ = ap (λ m. m % 256) low.0 ∙ (place b₁ 256 0 b₁ h₁ (omega arith)).1 in
    λ i. low.1 i ∷ high i ∷ []

-- The four bytes of a number that four bytes give are those.
four_of_long : (b₀ b₁ b₂ b₃ : ℕ) → b₀ < 256 → b₁ < 256 → b₂ < 256 → b₃ < 256 → four_bytes (long b₀ b₁ b₂ b₃) ≡ b₀ ∷ b₁ ∷ b₂ ∷ b₃ ∷ []
four_of_long b₀ b₁ b₂ b₃ h₀ h₁ h₂ h₃ =
    let n = long b₀ b₁ b₂ b₃ in
    let p₀ = place n 256 (word b₁ b₂ + 65536 * b₃) b₀ h₀ (omega arith) in
    let p₁ = place n 65536 (word b₂ b₃) (word b₀ b₁) (omega arith) (omega arith) in
    let p₂ = place n 16777216 b₃ (word b₀ b₁ + 65536 * b₂) (omega arith) (omega arith) in
    let e₁ : n / 256 % 256 ≡ b₁ = ap (λ m. m % 256) p₀.0 ∙ (place (word b₁ b₂ + 65536 * b₃) 256 (word b₂ b₃) b₁ h₁ (omega arith)).1 in
    let e₂ : n / 65536 % 256 ≡ b₂ = ap (λ m. m % 256) p₁.0 ∙ (place (word b₂ b₃) 256 b₃ b₂ h₂ (omega arith)).1 in
    let e₃ : n / 16777216 % 256 ≡ b₃ = ap (λ m. m % 256) p₂.0 ∙ (place b₃ 256 0 b₃ h₃ (omega arith)).1 in
    λ i. p₀.1 i ∷ e₁ i ∷ e₂ i ∷ e₃ i ∷ []

-- The byte of a kind gives it.
kind_read : (k : Kind) → kind_at (kind_byte k) ≡ Some k
kind_read Direct = refl
kind_read Queue = refl
kind_read PerCell = refl

-- A test that a list is long enough, passed.
enough : {X : Type 0} (n : ℕ) (bs : List ℕ) (x y : X) → n ≤ length bs → cond (leb n (length bs)) x y ≡ x
enough n bs x y h = cond-true (leb n (length bs)) x y (le-leb n (length bs) h)

-- From the bytes of a record, with anything behind them, that record is read.
reads_back : ReadsBack
reads_back (Setup s) rest fits =
    let body = kind_byte s.kind ∷ 0 ∷ (s.strong % 256) ∷ (s.strong / 256 % 256) ∷ rest in
    enough 4 (8 ∷ 0 ∷ 1 ∷ 0 ∷ body) (shaped (Some setup) body) (Err RecordCutShort) (omega arith)
    ∙ enough 4 body (body_at setup body) (Err RecordCutShort) (omega arith)
    ∙ (λ i. setup_with (kind_read s.kind i) (word_of_two s.strong fits i))
reads_back (Instruction f) rest fits =
    let body = f.thread ∷ f.label ∷ f.next ∷ f.form ∷ f.register ∷ f.operation ∷ f.tag_a ∷ f.tag_b ∷ (four_bytes f.a ++ (four_bytes f.b ++ rest)) in
    enough 4 (20 ∷ 0 ∷ 2 ∷ 0 ∷ body) (shaped (Some instruction) body) (Err RecordCutShort) (omega arith)
    ∙ enough 16 body (body_at instruction body) (Err RecordCutShort) (omega arith)
    ∙ (λ i. Ok (Instruction (with_operands body (long_of_four f.a fits.a_fits i) (long_of_four f.b fits.b_fits i))))
reads_back (Run t n) rest fits =
    enough 4 (6 ∷ 0 ∷ 3 ∷ 0 ∷ t ∷ n ∷ rest) (shaped (Some run) (t ∷ n ∷ rest)) (Err RecordCutShort) (omega arith)
    ∙ enough 2 (t ∷ n ∷ rest) (body_at run (t ∷ n ∷ rest)) (Err RecordCutShort) (omega arith)
reads_back (Drain t c) rest fits =
    enough 4 (6 ∷ 0 ∷ 4 ∷ 0 ∷ t ∷ c ∷ rest) (shaped (Some drain) (t ∷ c ∷ rest)) (Err RecordCutShort) (omega arith)
    ∙ enough 2 (t ∷ c ∷ rest) (body_at drain (t ∷ c ∷ rest)) (Err RecordCutShort) (omega arith)

-- The number of the kind that a shape belongs to.
abbrev number_of : Shape → ℕ
number_of setup = 1
number_of instruction = 2
number_of run = 3
number_of drain = 4

-- A list begins with its first bytes.
spread : (n : ℕ) (bs : List ℕ) → n ≤ length bs → bs ≡ map (byte bs) (range_with_len 0 n) ++ drop n bs
spread n bs h = sym (take-append-drop n bs) ∙ ap (λ xs. xs ++ drop n bs) (fill_by_all (byte bs) (take n bs) n 0 (length-take-le n bs h) (λ k l. get_or-take n bs k 0 l))

-- Nothing is refused and read.
refused_read : {A : Type 0} (e : Refusal) (r : Record) → ◌≡◌ {A = Result Record Refusal} (Err e) (Ok r) → A
refused_read e r p = absurd cc

-- What a test lets through was long enough, and is what stands behind the test.
let_through : (n : ℕ) (bs : List ℕ) (x : Result Record Refusal) (r : Record) → cond (leb n (length bs)) x (Err RecordCutShort) ≡ Ok r → (n ≤ length bs) × (x ≡ Ok r)
let_through n bs x r p = by (leb n (length bs)) refl p where
  by : (t : Bool) → leb n (length bs) ≡ t → cond t x (Err RecordCutShort) ≡ Ok r → (n ≤ length bs) × (x ≡ Ok r)
  by true e q = (leb-true n (length bs) e, q)
  by false e q = refused_read RecordCutShort r q

-- Length and kind that announce a shape are that shape's.
announced : (l k : ℕ) (s : Shape) → shape_of l k ≡ Some s → (l ≡ 4 + body_size s) × (k ≡ number_of s)
announced l k s p = by (eqb l 8 && eqb k 1) (eqb l 20 && eqb k 2) (eqb l 6 && eqb k 3) (eqb l 6 && eqb k 4) refl refl refl refl p where
  Its : Shape → Type 0
  Its s' = (l ≡ 4 + body_size s') × (k ≡ number_of s')

  both : (m n : ℕ) → (eqb l m && eqb k n) ≡ true → (l ≡ m) × (k ≡ n)
  both m n e = (eqb-true l m (and_parts (eqb l m) (eqb k n) e).0, eqb-true k n (and_parts (eqb l m) (eqb k n) e).1)

  same : (s₀ : Shape) → ◌≡◌ {A = Option Shape} (Some s₀) (Some s) → s₀ ≡ s
  same s₀ q = cc

  by : (t₁ t₂ t₃ t₄ : Bool) → (eqb l 8 && eqb k 1) ≡ t₁ → (eqb l 20 && eqb k 2) ≡ t₂ → (eqb l 6 && eqb k 3) ≡ t₃ → (eqb l 6 && eqb k 4) ≡ t₄
      → cond t₁ (Some setup) (cond t₂ (Some instruction) (cond t₃ (Some run) (cond t₄ (Some drain) None))) ≡ Some s → Its s
  by true t₂ t₃ t₄ e₁ e₂ e₃ e₄ q = subst Its (same setup q) (both 8 1 e₁)
  by false true t₃ t₄ e₁ e₂ e₃ e₄ q = subst Its (same instruction q) (both 20 2 e₂)
  by false false true t₄ e₁ e₂ e₃ e₄ q = subst Its (same run q) (both 6 3 e₃)
  by false false false true e₁ e₂ e₃ e₄ q = subst Its (same drain q) (both 6 4 e₄)
  by false false false false e₁ e₂ e₃ e₄ q = absurd cc

-- What a record read from bytes of a shape is: one of that shape, whose fields are those bytes.
record Body (s : Shape) (bs : List ℕ) (r : Record) : Type 0 where
  size_is : size r ≡ 4 + body_size s
  number_is : kind_number r ≡ number_of s
  bytes_are : bs ≡ body_bytes r ++ drop (body_size s) bs

-- The byte of a kind that is read.
kind_from : (n : ℕ) (k : Kind) → kind_at n ≡ Some k → n ≡ kind_byte k
kind_from zero k p = cc
kind_from (suc zero) k p = cc
kind_from (suc (suc zero)) k p = cc
kind_from (suc (suc (suc n))) k p = absurd cc

-- A setup that is read.
setup_from : (bs : List ℕ) (r : Record) → All (λ b. b < 256) bs → 4 ≤ length bs → body_at setup bs ≡ Ok r → Body setup bs r
setup_from bs r below there p = by (eqb (byte bs 1) 0) refl p where
  under : (k : ℕ) → k < 4 → byte bs k < 256
  under k h = All-get_or (λ b. b < 256) bs k 0 (omega (arith, h, there)) below

  strong : ℕ
  strong = word (byte bs 2) (byte bs 3)

  strong_is : two_bytes strong ≡ byte bs 2 ∷ byte bs 3 ∷ []
  strong_is = two_of_word (byte bs 2) (byte bs 3) (under 2 (omega arith)) (under 3 (omega arith))

  made : (k : Kind) → kind_at (byte bs 0) ≡ Some k → byte bs 1 ≡ 0 → Body setup bs (Setup (record { kind = k; strong = strong }))
  made k e z = record {
    size_is = refl;
    number_is = refl;
    bytes_are =
        spread 4 bs there
        ∙ (λ i. kind_from (byte bs 0) k e i ∷ z i ∷ (sym strong_is i ++ drop 4 bs));
  }

  with_kind : (o : Option Kind) → kind_at (byte bs 0) ≡ o → byte bs 1 ≡ 0 → setup_with o strong ≡ Ok r → Body setup bs r
  with_kind None e z q = refused_read RecordUnknown r q
  with_kind (Some k) e z q = let same : Setup (record { kind = k; strong = strong }) ≡ r = cc in subst (Body setup bs) same (made k e z)

  by : (t : Bool) → eqb (byte bs 1) 0 ≡ t → cond t (setup_with (kind_at (byte bs 0)) strong) (Err RecordUnknown) ≡ Ok r → Body setup bs r
  by true e q = with_kind (kind_at (byte bs 0)) refl (eqb-true (byte bs 1) 0 e) q
  by false e q = refused_read RecordUnknown r q

-- An instruction that is read.
instruction_from : (bs : List ℕ) → All (λ b. b < 256) bs → 16 ≤ length bs → Body instruction bs (Instruction (fields_at bs))
instruction_from bs below there = record {
  size_is = refl;
  number_is = refl;
  bytes_are =
      spread 16 bs there
      ∙ (λ i. byte bs 0 ∷ byte bs 1 ∷ byte bs 2 ∷ byte bs 3 ∷ byte bs 4 ∷ byte bs 5 ∷ byte bs 6 ∷ byte bs 7 ∷ ((sym a_is i ++ sym b_is i) ++ drop 16 bs));
} where
  under : (k : ℕ) → k < 16 → byte bs k < 256
  under k h = All-get_or (λ b. b < 256) bs k 0 (omega (arith, h, there)) below

  a_is : four_bytes (long (byte bs 8) (byte bs 9) (byte bs 10) (byte bs 11)) ≡ byte bs 8 ∷ byte bs 9 ∷ byte bs 10 ∷ byte bs 11 ∷ []
  a_is = four_of_long (byte bs 8) (byte bs 9) (byte bs 10) (byte bs 11) (under 8 (omega arith)) (under 9 (omega arith)) (under 10 (omega arith)) (under 11 (omega arith))

  b_is : four_bytes (long (byte bs 12) (byte bs 13) (byte bs 14) (byte bs 15)) ≡ byte bs 12 ∷ byte bs 13 ∷ byte bs 14 ∷ byte bs 15 ∷ []
  b_is = four_of_long (byte bs 12) (byte bs 13) (byte bs 14) (byte bs 15) (under 12 (omega arith)) (under 13 (omega arith)) (under 14 (omega arith)) (under 15 (omega arith))

-- The rest of a record that is read.
body_from : (s : Shape) (bs : List ℕ) (r : Record) → All (λ b. b < 256) bs → body_size s ≤ length bs → body_at s bs ≡ Ok r → Body s bs r
body_from setup bs r below there p = setup_from bs r below there p
body_from instruction bs r below there p = let same : Instruction (fields_at bs) ≡ r = cc in subst (Body instruction bs) same (instruction_from bs below there)
body_from run bs r below there p = let same : Run (byte bs 0) (byte bs 1) ≡ r = cc in subst (Body run bs) same (record { size_is = refl; number_is = refl; bytes_are = spread 2 bs there })
body_from drain bs r below there p = let same : Drain (byte bs 0) (byte bs 1) ≡ r = cc in subst (Body drain bs) same (record { size_is = refl; number_is = refl; bytes_are = spread 2 bs there })

-- Four bytes, and behind them the rest of a record, are the bytes of that record with what follows it.
joined : (b₀ b₁ b₂ b₃ : ℕ) (rest : List ℕ) (s : Shape) (r : Record) → b₀ < 256 → b₁ < 256 → b₂ < 256 → b₃ < 256 → word b₀ b₁ ≡ 4 + body_size s → word b₂ b₃ ≡ number_of s → Body s rest r
    → b₀ ∷ b₁ ∷ b₂ ∷ b₃ ∷ rest ≡ bytes_of r ++ drop (size r) (b₀ ∷ b₁ ∷ b₂ ∷ b₃ ∷ rest)
joined b₀ b₁ b₂ b₃ rest s r h₀ h₁ h₂ h₃ el ek body =
    let l_is : b₀ ∷ b₁ ∷ [] ≡ two_bytes (size r) = sym (two_of_word b₀ b₁ h₀ h₁) ∙ ap two_bytes (el ∙ sym body.size_is) in
    let k_is : b₂ ∷ b₃ ∷ [] ≡ two_bytes (kind_number r) = sym (two_of_word b₂ b₃ h₂ h₃) ∙ ap two_bytes (ek ∙ sym body.number_is) in
    let behind : drop (body_size s) rest ≡ drop (size r) (b₀ ∷ b₁ ∷ b₂ ∷ b₃ ∷ rest) = drop-drop (body_size s) 4 (b₀ ∷ b₁ ∷ b₂ ∷ b₃ ∷ rest) ∙ ap (λ n. drop n (b₀ ∷ b₁ ∷ b₂ ∷ b₃ ∷ rest)) (sym body.size_is) in
    (λ i. l_is i ++ (k_is i ++ (body.bytes_are ∙ ap (λ xs. body_bytes r ++ xs) behind) i))

-- Bytes from which a record is read begin with the bytes of that record.
read_is_layout : ReadIsLayout
read_is_layout [] r below p = refused_read RecordCutShort r p
read_is_layout (b₀ ∷ []) r below p = refused_read RecordCutShort r p
read_is_layout (b₀ ∷ b₁ ∷ []) r below p = refused_read RecordCutShort r p
read_is_layout (b₀ ∷ b₁ ∷ b₂ ∷ []) r below p = refused_read RecordCutShort r p
read_is_layout (b₀ ∷ b₁ ∷ b₂ ∷ b₃ ∷ rest) r all p =
    by (shape_of (word b₀ b₁) (word b₂ b₃)) refl (let_through 4 (b₀ ∷ b₁ ∷ b₂ ∷ b₃ ∷ rest) (shaped (shape_of (word b₀ b₁) (word b₂ b₃)) rest) r p).1
  where
    Layout : Type 0
    Layout = b₀ ∷ b₁ ∷ b₂ ∷ b₃ ∷ rest ≡ bytes_of r ++ drop (size r) (b₀ ∷ b₁ ∷ b₂ ∷ b₃ ∷ rest)

    by : (o : Option Shape) → shape_of (word b₀ b₁) (word b₂ b₃) ≡ o → shaped o rest ≡ Ok r → Layout
    by None e q = refused_read RecordUnknown r q
    by (Some s) e q =
        let told = announced (word b₀ b₁) (word b₂ b₃) s e in
        let passed = let_through (body_size s) rest (body_at s rest) r q in
        joined b₀ b₁ b₂ b₃ rest s r (all 0 0 (omega arith)) (all 1 0 (omega arith)) (all 2 0 (omega arith)) (all 3 0 (omega arith)) told.0 told.1
        (body_from s rest r (All-drop (λ b. b < 256) 4 (b₀ ∷ b₁ ∷ b₂ ∷ b₃ ∷ rest) all) passed.0 passed.1)

-- The layout is read back.
pub readback : Readback
readback = record { reads_back = reads_back; read_is_layout = read_is_layout }
