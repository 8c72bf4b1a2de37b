-- What a put and a take answer, test by test.
use Rattle.std.proofs.Common.{◌≡◌, ℕ, ◌<◌, Bool, true, false, cond, leb, [], ◌∷◌, ◌++◌, length, Ok, Err, Result, refl, ◌∙◌}
use Rattle.std.proofs.lemmas.List.{length-set}
use Rattle.std.proofs.lemmas.Bool.{cond-false, leb-false, lt-leb}
use Rattle.refusal.specs.declared.Refusal.{Refusal}
use Rattle.refusal.specs.declared.Refusal.TheVariants.{ThreadOutOfRange, CellOutOfRange, BufferFull}
use Rattle.buffers.specs.Calls.{put_answer, put_lists, store}
use Rattle.buffers.specs.Lists.{Lists, list_of}

-- A put that passes every test is taken.
pub put_taken : (ls : Lists) (t c : ℕ) → t < 8 → c < 16 → length (list_of ls t) < 16 → put_answer ls t c ≡ Ok tt
put_taken ls t c thread cell room =
    cond-false (leb 8 t) (Err ThreadOutOfRange) (cond (leb 16 c) (Err CellOutOfRange) (cond (leb 16 (length (list_of ls t))) (Err BufferFull) (Ok tt))) (lt-leb 8 t thread)
    ∙ cond-false (leb 16 c) (Err CellOutOfRange) (cond (leb 16 (length (list_of ls t))) (Err BufferFull) (Ok tt)) (lt-leb 16 c cell)
    ∙ cond-false (leb 16 (length (list_of ls t))) (Err BufferFull) (Ok tt) (lt-leb 16 (length (list_of ls t)) room)

-- A put that was taken is a put of one of the eight threads.
pub put_in_range : (ls : Lists) (u d : ℕ) (done : Unit {0}) → put_answer ls u d ≡ Ok done → u < 8
put_in_range ls u d done taken = go (leb 8 u) refl taken
  where
    go : (b : Bool) → leb 8 u ≡ b → cond b (Err ThreadOutOfRange) (cond (leb 16 d) (Err CellOutOfRange) (cond (leb 16 (length (list_of ls u))) (Err BufferFull) (Ok tt))) ≡ Ok done → u < 8
    go true out e = cc
    go false within e = leb-false 8 u within

-- A put does not change how many lists there are.
pub length_put : (ls : Lists) (u d v : ℕ) (a : Result (Unit {0}) Refusal) → length (put_lists ls u d v a) ≡ length ls
length_put ls u d v (Ok done) = length-set ls u (list_of ls u ++ store d v ∷ [])
length_put ls u d v (Err refusal) = refl
