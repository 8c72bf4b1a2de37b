-- What a replay holds at first agrees with the ledger of no moves; and the threads that it keeps as delaying are those that delayed.
use Rattle.std.proofs.Common.{◌≡◌, ℕ, cond, ◌&&◌, ◌||◌, eqb, leb, List, [], ◌∷◌, ◌++◌, map, length, Some, None, Option, sym, refl, ap, ◌∙◌, subst, arith}
use mathlib.Core.Path.{fun_ext}
use Rattle.std.proofs.Math.Bool.{or-false, or_assoc}
use Rattle.std.proofs.lemmas.Bool.{eq-eqb, le-leb, ne_eqb}
use Rattle.refusal.specs.declared.Refusal.{Refusal}
use Rattle.program.specs.declared.lines.Line.{Line}
use Rattle.buffers.specs.Laws.{Rules}
use Rattle.buffers.specs.Lists.{list_of, oldest_to}
use Rattle.ledger.specs.Delays.{delaying, delays, delays_by, waits_here}
use Rattle.ledger.specs.Ledgers.{Entry, Ledger, start}
use Rattle.ledger.specs.Moves.{after_move, after_moves, ledger_of}
use Rattle.ledger.specs.Tests.{sum_over, tested, threads}
use Rattle.ledger.specs.declared.moves.Move.{Move}
use Rattle.ledger.specs.declared.moves.Move.TheVariants.{Run, Drain}
use Rattle.ledger.proofs.Draining.{list_in}
use Rattle.ledger.proofs.Growing.{update_all}
use Rattle.ledger.proofs.Passing.{run_passes}
use Rattle.present.specs.Agreement.{Agrees, Tracks}
use Rattle.present.specs.Calls.{after_drain_held, after_move_held, after_offer_held, after_run_held, kept_by, tested_held}
use Rattle.present.specs.Data.{Held, fresh_held, oldest_left, waiting_of}
use Rattle.present.specs.Joins.{delaying_in}
use Rattle.present.specs.Theorems.{joined_by_offer, offered}

-- At first the two agree.
pub agrees_start : Agrees start fresh_held
agrees_start = record {
  locals = λ t. refl;
  memory = λ c. refl;
  actions = λ t. refl;
  waiting = λ t. refl;
  over = λ a c within. absurd (omega (arith, within));
  lists = refl;
}

-- As many threads are kept as delaying as delayed.
pub delays_agree : (ls : List Line) (ms : List Move) (h : Held) → Tracks ls ms h → delaying_in h.own ≡ delaying ls ms
delays_agree ls ms h tracks = ap (λ f. sum_over (λ t. cond (f t) 1 0) threads) (fun_ext tracks)

-- A thread delayed with one more move if it had delayed, or if that move is such a run.
pub delays_push : (ls : List Line) (l : Ledger) (t : ℕ) (ms : List Move) (m : Move) → delays ls l t (ms ++ m ∷ []) ≡ (delays ls l t ms || delays_by (after_moves ls l ms) t m)
delays_push ls l t [] m = or-false (delays_by l t m)
delays_push ls l t (x ∷ ms) m =
    ap (λ later. delays_by l t x || later) (delays_push ls (after_move ls l x) t ms m)
    ∙ sym (or_assoc (delays_by l t x) (delays ls (after_move ls l x) t ms) (delays_by (after_moves ls (after_move ls l x) ms) t m))

-- A drain leaves the threads that are kept as delaying as they were.
drain_delayed : (h : Held) (t c : ℕ) (value left : Option ℕ) → (after_drain_held h t c value left).own.delayed ≡ h.own.delayed
drain_delayed h t c None left = refl
drain_delayed h t c (Some v) None = refl
drain_delayed h t c (Some v) (Some p) = refl

-- A list of stores is at least one long where a store of these waits.
long_waits : (es : List Entry) → leb 1 (length (map (λ e. e.store) es)) ≡ waits_here es
long_waits [] = refl
long_waits (e ∷ es) = le-leb 1 (length (map (λ f. f.store) (e ∷ es))) (omega arith)

module _ (rules : Rules) (ls : List Line) (ms : List Move) (h : Held) (agrees : Agrees (ledger_of ls ms) h) (tracks : Tracks ls ms h) where
  abbrev l : Ledger
  l = ledger_of ls ms

  -- An accepted move keeps the track.
  delayed_after : (m : Move) → tested rules ls l m ≡ None → (t : ℕ) → (after_move_held ls h m).own.delayed t ≡ (delays ls start t ms || delays_by l t m)
  delayed_after (Run u n) passed t =
      let p = run_passes rules ls l u n passed in
      let waits : leb 1 (length (waiting_of h u)) ≡ waits_here (l.waiting u) = ap (λ lists. leb 1 (length (list_of lists u))) agrees.lists ∙ ap (λ ss. leb 1 (length ss)) (list_in l u p.in_range) ∙ long_waits (l.waiting u) in
      ap (λ o. (after_run_held h u n o).own.delayed t) p.there
      ∙ update_all h.own.delayed u (h.own.delayed u || leb 1 (length (waiting_of h u))) (λ v b. b ≡ (delays ls start v ms || (eqb u v && waits_here (l.waiting v))))
      (ap (λ b. b || leb 1 (length (waiting_of h u))) (tracks u) ∙ ap (λ b. delays ls start u ms || b) (waits ∙ ap (λ b. b && waits_here (l.waiting u)) (sym (eq-eqb u u refl))))
      (λ v other. tracks v ∙ sym (or-false (delays ls start v ms)) ∙ ap (λ b. delays ls start v ms || (b && waits_here (l.waiting v))) (sym (ne_eqb u v (λ is. other (sym is)))))
      t
  delayed_after (Drain u c) passed t =
      ap (λ f. f t) (drain_delayed h u c (oldest_to c (waiting_of h u)) (oldest_left 0 c (h.own.noted u)))
      ∙ tracks t ∙ sym (or-false (delays ls start t ms))

  -- Whether it is accepted or refused, an offered move that the two answer alike keeps the track.
  pub tracks_offer : (m : Move) → tested_held rules ls h m ≡ tested rules ls l m → Tracks ls (offered rules ls ms m) (after_offer_held rules ls h m)
  tracks_offer m alike = subst (λ o. Tracks ls (offered rules ls ms m) (kept_by o h (after_move_held ls h m))) (sym alike) (go (tested rules ls l m) refl)
    where
      go : (o : Option Refusal) → tested rules ls l m ≡ o → Tracks ls (joined_by_offer o ms m) (kept_by o h (after_move_held ls h m))
      go None is t = delayed_after m is t ∙ sym (delays_push ls start t ms m)
      go (Some r) is t = tracks t
