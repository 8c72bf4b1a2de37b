-- Two ascending lists of the same pairs are one list.
use Rattle.std.proofs.Common.{◌≡◌, zero, suc, ◌⊎◌, List, [], ◌∷◌, sym, refl, ap, ◌∙◌, subst, inl, inr, ⊎_elim, le_of_suc-le-suc, arith}
use Rattle.std.specs.List.{Contains}
use Rattle.std.proofs.lemmas.List.Elements.{All-contains, Contains-append_right}
use Rattle.attacks.specs.declared.pair.Pair.{Pair}
use Rattle.attacks.specs.Attacks.{Ascending, Attack, Before, OneList}

-- No pair comes before itself, and of two pairs only one comes before the other.
not_itself : (p : Pair) → Before p p → ⊥
not_itself p before = grind arith

not_both : (p q : Pair) → Before p q → Before q p → ⊥
not_both p q one other = grind arith

-- What a list has is its first or stands behind it.
has_cases : (p : Pair) (ps : List Pair) (q : Pair) → Contains (p ∷ ps) q → (p ≡ q) ⊎ Contains ps q
has_cases p ps q (zero, within, is) = inl is
has_cases p ps q (suc k, within, is) = inr (k, le_of_suc-le-suc within, is)

-- each list has what the other has
record Alike (ps qs : List Pair) : Type 0 where
  there : (p : Pair) → Contains ps p → Contains qs p
  back : (p : Pair) → Contains qs p → Contains ps p

none_has : (p : Pair) → Contains [] p → ⊥
none_has p (k, within, is) = omega (arith, within)

-- Both begin with the same pair.
same_first : (p q : Pair) (ps qs : List Pair) → Ascending (p ∷ ps) → Ascending (q ∷ qs) → Alike (p ∷ ps) (q ∷ qs) → p ≡ q
same_first p q ps qs up up' alike =
    ⊎_elim
    (λ is. sym is)
    (λ later.
    ⊎_elim (λ is. is) (λ later'. absurd (not_both p q (All-contains (Before p) ps q up.0 later') (All-contains (Before q) qs p up'.0 later)))
    (has_cases p ps q (alike.back q (0, omega arith, refl))))
    (has_cases q qs p (alike.there p (0, omega arith, refl)))

-- And what stands behind it is alike too.
rest_there : (p : Pair) (ps qs : List Pair) → Ascending (p ∷ ps) → Alike (p ∷ ps) (p ∷ qs) → (r : Pair) → Contains ps r → Contains qs r
rest_there p ps qs up alike r has =
    ⊎_elim
    (λ is. absurd (not_itself p (subst (Before p) (sym is) (All-contains (Before p) ps r up.0 has))))
    (λ later. later)
    (has_cases p qs r (alike.there r (Contains-append_right (p ∷ []) ps r has)))

one_list_of : (ps qs : List Pair) → Ascending ps → Ascending qs → Alike ps qs → ps ≡ qs
one_list_of [] [] up up' alike = refl
one_list_of [] (q ∷ qs) up up' alike = absurd (none_has q (alike.back q (0, omega arith, refl)))
one_list_of (p ∷ ps) [] up up' alike = absurd (none_has p (alike.there p (0, omega arith, refl)))
one_list_of (p ∷ ps) (q ∷ qs) up up' alike =
    let is = same_first p q ps qs up up' alike in
    let alike' : Alike (p ∷ ps) (p ∷ qs) = subst (λ k. Alike (p ∷ ps) (k ∷ qs)) (sym is) alike in
    let up'' : Ascending (p ∷ qs) = subst (λ k. Ascending (k ∷ qs)) (sym is) up' in
    ap (λ l. p ∷ l) (one_list_of ps qs up.1 up'.1 (record { there = rest_there p ps qs up alike'; back = rest_there p qs ps up'' (record { there = alike'.back; back = alike'.there }) })) ∙ ap (λ k. k ∷ qs) is

pub one_list : OneList
one_list ls ps qs first second =
    one_list_of ps qs first.ascending second.ascending (record {
      there = λ p has. second.complete p (All-contains (λ r. Attack ls r.store r.load) ps p first.sound has);
      back = λ p has. first.complete p (All-contains (λ r. Attack ls r.store r.load) qs p second.sound has);
    })
