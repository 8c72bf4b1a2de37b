-- The ring of Dekker's late run is the only one.
use Rattle.std.proofs.Common.{◌≡◌, ℕ, zero, suc, ◌+◌, true, ◌&&◌, List, [], ◌∷◌, sym, refl, ap, ◌∙◌, subst, ⊎_elim, arith}
use Rattle.std.specs.List.{All, Contains}
use Rattle.std.proofs.lemmas.List.Elements.{All-head, All-tail}
use Rattle.std.proofs.lemmas.Bool.{and_parts, true≢false}
use Rattle.buffers.specs.Kinds.{queue}
use Rattle.buffers.specs.Laws.{Lawful}
use Rattle.ledger.specs.Actions.{Name, name}
use Rattle.ledger.specs.Edges.{Trace, edge, is_action, trace_of}
use Rattle.ledger.specs.Ledgers.{start}
use Rattle.ledger.specs.Moves.{ledger_of}
use Rattle.ledger.specs.Runs.{Accepted}
use Rattle.ledger.specs.Theorems.{Chained}
use Rattle.ledger.specs.Verdicts.{ListsRing, Lower}
use Rattle.ledger.specs.Worked.{dekker, four, late}
use Rattle.ledger.proofs.Draining.{sound_moves}
use Rattle.ledger.proofs.Exact.{in_names}
use Rattle.ledger.proofs.Sound.{Sound, sound_start}

abbrev pub x : Trace
x = trace_of (ledger_of dekker late)

accepted : Accepted queue dekker start late
accepted = (refl, (refl, (refl, (refl, (refl, (refl, tt))))))

-- the four actions, round the ring
data Corner : Type 0 where
  first : Corner
  second : Corner
  third : Corner
  fourth : Corner

abbrev corner : Corner → Name
corner first = name 0 0
corner second = name 0 1
corner third = name 1 0
corner fourth = name 1 1

abbrev next : Corner → Corner
next first = second
next second = third
next third = fourth
next fourth = first

-- a number for each, by which they differ
abbrev mark : Name → ℕ
mark a = a.thread + a.thread + a.position

module _ (queue_lawful : Lawful queue) where
  sound : Sound dekker (ledger_of dekker late)
  sound = sound_moves queue queue_lawful dekker late start (sound_start dekker) accepted

  -- Every action is one of the four.
  a_corner : (a : Name) → is_action x a ≡ true → (i : Corner) × (a ≡ corner i)
  a_corner a action = which (in_names dekker (ledger_of dekker late) sound a action)
    where
      which : Contains (name 0 1 ∷ name 0 0 ∷ name 1 1 ∷ name 1 0 ∷ []) a → (i : Corner) × (a ≡ corner i)
      which (zero, within, is) = (second, sym is)
      which (suc zero, within, is) = (first, sym is)
      which (suc (suc zero), within, is) = (fourth, sym is)
      which (suc (suc (suc zero)), within, is) = (third, sym is)
      which (suc (suc (suc (suc k))), within, is) = absurd (omega (arith, within))

  -- The only edge out of each leads to the next.
  only_edge : (i j : Corner) → edge x (corner i) (corner j) ≡ true → j ≡ next i
  only_edge first first so = absurd (true≢false (sym so))
  only_edge first second so = refl
  only_edge first third so = absurd (true≢false (sym so))
  only_edge first fourth so = absurd (true≢false (sym so))
  only_edge second first so = absurd (true≢false (sym so))
  only_edge second second so = absurd (true≢false (sym so))
  only_edge second third so = refl
  only_edge second fourth so = absurd (true≢false (sym so))
  only_edge third first so = absurd (true≢false (sym so))
  only_edge third second so = absurd (true≢false (sym so))
  only_edge third third so = absurd (true≢false (sym so))
  only_edge third fourth so = refl
  only_edge fourth first so = refl
  only_edge fourth second so = absurd (true≢false (sym so))
  only_edge fourth third so = absurd (true≢false (sym so))
  only_edge fourth fourth so = absurd (true≢false (sym so))

  -- So an edge out of one leads to the next.
  onward : (i : Corner) (a b : Name) → a ≡ corner i → edge x a b ≡ true → b ≡ corner (next i)
  onward i a b is so =
      let both = (and_parts (is_action x a && is_action x b) _ so).0 in
      let there = a_corner b (and_parts (is_action x a) (is_action x b) both).1 in
      there.1 ∙ ap corner (only_edge i there.0 (subst (λ c. edge x (corner i) c ≡ true) there.1 (subst (λ c. edge x c b ≡ true) is so)))

  -- Two of them with different marks are not one.
  clash : {a b c : Name} → a ≡ b → a ≡ c → (mark b ≡ mark c → ⊥) → ⊥
  clash p q differ = differ (ap mark (sym p ∙ q))

  -- One with a lower mark is not above.
  not_lower : (i j : Corner) {a b : Name} → a ≡ corner i → b ≡ corner j → (Lower (corner i) (corner j) → ⊥) → Lower a b → ⊥
  not_lower i j {a} {b} p q never so = never (subst (λ c. Lower (corner i) c) q (subst (λ c. Lower c b) p so))

  -- A ring that starts at its lowest action starts at the first, and goes round once.
  pub only_ring : (names : List Name) → ListsRing x names → names ≡ four
  only_ring [] ring = absurd ring
  only_ring (a ∷ []) ring = absurd ring
  only_ring (a ∷ b ∷ rest) ring = from (a_corner a (and_parts (is_action x a) (is_action x b) (and_parts (is_action x a && is_action x b) _ ring.0.0).0).0)
    where
      from_first : (rest : List Name) → a ≡ corner first → b ≡ corner second → Chained x b rest a → All (λ c. c ≡ a → ⊥) rest → a ∷ b ∷ rest ≡ four
      from_first [] p q so lacks = absurd (clash p (onward second b a q so) (λ e. omega (arith, e)))
      from_first (c ∷ []) p q so lacks = absurd (clash p (onward third c a (onward second b c q so.0) so.1) (λ e. omega (arith, e)))
      from_first (c ∷ d ∷ []) p q so lacks =
          let r = onward second b c q so.0 in
          let s = onward third c d r so.1.0 in
          λ i. p i ∷ q i ∷ r i ∷ s i ∷ []
      from_first (c ∷ d ∷ e ∷ more) p q so lacks =
          let r = onward second b c q so.0 in
          let s = onward third c d r so.1.0 in
          let t = onward fourth d e s so.1.1.0 in
          absurd (lacks 2 e (omega arith) (t ∙ sym p))

      from_second : (rest : List Name) → a ≡ corner second → b ≡ corner third → Chained x b rest a → All (Lower a) rest → ⊥
      from_second [] p q so lower = clash p (onward third b a q so) (λ e. omega (arith, e))
      from_second (c ∷ []) p q so lower = clash p (onward fourth c a (onward third b c q so.0) so.1) (λ e. omega (arith, e))
      from_second (c ∷ d ∷ more) p q so lower =
          not_lower second first p (onward fourth c d (onward third b c q so.0) so.1.0) (⊎_elim (λ l. omega (arith, l)) (λ l. omega (arith, l.1))) (lower 1 d (omega arith))

      from_third : (rest : List Name) → a ≡ corner third → b ≡ corner fourth → Chained x b rest a → All (Lower a) rest → ⊥
      from_third [] p q so lower = clash p (onward fourth b a q so) (λ e. omega (arith, e))
      from_third (c ∷ more) p q so lower = not_lower third first p (onward fourth b c q so.0) (⊎_elim (λ l. omega (arith, l)) (λ l. omega (arith, l.0))) (All-head (Lower a) c more lower)

      by_corner : (i : Corner) → a ≡ corner i → a ∷ b ∷ rest ≡ four
      by_corner first p = from_first rest p (onward first a b p ring.0.0) ring.0.1 (All-tail (λ c. c ≡ a → ⊥) b rest ring.1.0)
      by_corner second p = absurd (from_second rest p (onward second a b p ring.0.0) ring.0.1 (All-tail (Lower a) b rest ring.2))
      by_corner third p = absurd (from_third rest p (onward third a b p ring.0.0) ring.0.1 (All-tail (Lower a) b rest ring.2))
      by_corner fourth p = absurd (not_lower fourth first p (onward fourth a b p ring.0.0) (⊎_elim (λ l. omega (arith, l)) (λ l. omega (arith, l.0))) (All-head (Lower a) b rest ring.2))

      from : ((i : Corner) × (a ≡ corner i)) → a ∷ b ∷ rest ≡ four
      from there = by_corner there.0 there.1
