-- The worked recordings, read and printed.
use Rattle.std.proofs.Common.{◌≡◌, ℕ, true, eqb, List, [], ◌∷◌, map, length, is_some, Some, codes, sym, refl, ap, ◌∙◌, subst, ⊎_elim, arith}
use Rattle.std.specs.Fmt.{digits}
use Rattle.std.proofs.lemmas.Bool.{cond-true, ltb-true, true≢false}
use Rattle.refusal.specs.declared.Refusal.TheVariants.{ThreadNotFree}
use Rattle.buffers.specs.Kinds.{oldest_is_to, queue}
use Rattle.buffers.specs.Laws.{Lawful}
use Rattle.buffers.specs.Lists.{list_of, oldest_to, waits_to}
use Rattle.buffers.specs.declared.store.Store.{Store}
use Rattle.ledger.specs.Actions.{Name as Name'}
use Rattle.ledger.specs.Worked.{dekker, late}
use Rattle.ledger.proofs.Table.{worked_runs}
use Rattle.replay.specs.Names.{name_of}
use Rattle.replay.specs.Truth.{TrueVerdict, TrueWord}
use Rattle.replay.specs.declared.names.Name.{Name}
use Rattle.replay.specs.declared.verdicts.Verdict.{Verdict}
use Rattle.replay.specs.declared.verdicts.Word.{Word}
use Rattle.replay.specs.declared.verdicts.Word.TheVariants.{Sequential, Violation}
use Rattle.recording.specs.Texts.{Says, fault_text, verdict_text}
use Rattle.recording.specs.Verdicts.{fault_at}
use Rattle.worked.specs.Recorded.{Recorded, dekker_direct, dekker_queue}
use Rattle.worked.proofs.OnlyRing.{only_ring, x}

-- Over queue a drain is free only where such a store waits.
oldest_waits : (c : ℕ) (ss : List Store) → oldest_is_to c ss ≡ true → waits_to c ss ≡ true
oldest_waits c [] so = absurd (true≢false (sym so))
oldest_waits c (s ∷ ss) so = ap is_some (cond-true (eqb s.cell c) (Some s.value) (oldest_to c ss) so)

queue_lawful : Lawful queue
queue_lawful = record {
  step_in_range = λ ls t so. ltb-true t 8 so;
  drain_waits = λ ls t c so. oldest_waits c (list_of ls t) so;
}

-- the names of the ring, as the program has them
abbrev ring : List Name
ring = record { thread = 0; position = 0 } ∷ record { thread = 0; position = 1 } ∷ record { thread = 1; position = 0 } ∷ record { thread = 1; position = 1 } ∷ []

-- the entry of a name
abbrev entry : Name' → Name
entry a = record { thread = a.thread; position = a.position }

-- Entries are told by their names.
told_by_names : (names : List Name) → map entry (map name_of names) ≡ names
told_by_names [] = refl
told_by_names (a ∷ names) = ap (λ rest. a ∷ rest) (told_by_names names)

-- A true verdict on the late run shows the ring.
the_verdict : (v : Verdict) (names : List Name) → TrueVerdict dekker late v (map name_of names) → (v ≡ record { word = Violation; entries = 4; delayed = 2 }) × (names ≡ ring)
the_verdict v names so = by_word v.word refl
  where
    by_word : (w : Word) → v.word ≡ w → (v ≡ record { word = Violation; entries = 4; delayed = 2 }) × (names ≡ ring)
    by_word Sequential is = absurd (worked_runs.late_verdict.no_run (so.sequential is))
    by_word Violation is =
        let shows = subst (λ w. TrueWord w dekker x (map name_of names)) is so.list in
        let listed = only_ring queue_lawful (map name_of names) shows.ring in
        let names_are = sym (told_by_names names) ∙ ap (map entry) listed in
        ((λ i. record { word = is i; entries = (so.entries ∙ ap length listed) i; delayed = so.delayed i }), names_are)

queue_printed : (text : List ℕ) → Says dekker_queue text → text ≡ codes "violation 4 2\n0 0\n0 1\n1 0\n1 1\n"
unfolding digits
queue_printed text says =
    ⊎_elim
    (λ verdict. let both = the_verdict verdict.verdict verdict.names verdict.true_of.1 in verdict.is ∙ (λ i. verdict_text (both.0 i) (both.1 i)))
    (λ at_fault. absurd (let z : ◌≡◌ {A = ℕ} 0 1 = cc at_fault.found in omega (arith, z))) says

direct_printed : (text : List ℕ) → Says dekker_direct text → text ≡ codes "refused 7 buffer 6 94\n"
unfolding digits
direct_printed text says =
    ⊎_elim
    (λ verdict. absurd verdict.true_of)
    (λ at_fault. let same : fault_at ThreadNotFree 6 94 ≡ at_fault.at = cc at_fault.found in at_fault.is ∙ ap fault_text (sym same)) says

pub recorded : Recorded
recorded = record {
  queue_length = refl;
  queue_meaning = refl;
  queue_printed = queue_printed;
  direct_meaning = refl;
  direct_printed = direct_printed;
}
