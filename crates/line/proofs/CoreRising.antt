-- The counts that B accepts strictly rise; this much of a run needs no premise on MACs.
use mathlib.Core.Path.{◌≡◌}
use mathlib.Core.List.Memᴰ
use mathlib.Core.List.{List, ◌∷◌, ◌++◌}
use mathlib.Core.Logic.{⊎_elim}
use Prim.Native.Nat.{ℕ, suc, ◌≤◌, ◌<◌}
use native.Mathlib.Omega.{arith}
use Rattle.line.specs.Line.{◌∈◌, Rising, empty, more}
use Rattle.line.proofs.CoreEnds
use Rattle.line.proofs.CoreEnds.{Ends, Pair}

module _ (E : Ends) where
  open E use {Text, Sending, Receiving, expected}

  -- the counts that were accepted rise, and are below the expected one
  pub record Rises (y : Receiving) (accepted : List ℕ) : Type 0 where
    pub old : (m : ℕ) → m ∈ accepted → m < expected y
    pub rising : Rising accepted

  pub beginning : (s : Pair Sending Receiving Text) → CoreEnds.Begins E s → Rises s.b s.accepted
  beginning s f = record {
    old = λ m h. absurd (Memᴰ.not-nil (rw f.none_taken at h));
    rising = rw f.none_taken empty;
  }

  -- nothing is accepted
  stays : (x y : Receiving) (accepted : List ℕ) → expected y ≡ expected x → Rises x accepted → Rises y accepted
  stays x y accepted same i = record { old = λ m h. omega (arith, i.old m h); rising = i.rising }

  -- a count is accepted
  grows : (x y : Receiving) (n : ℕ) (accepted : List ℕ) → expected x ≤ n → expected y ≡ suc n → Rises x accepted
      → Rises y (n ∷ accepted)
  grows x y n accepted late ex i = record {
    old = λ m h.
        ⊎_elim (λ (g : m ≡ n). omega arith) (λ (g : m ∈ accepted). omega (arith, i.old m g))
        (Memᴰ.cases_cons h);
    rising = more {n = n} {l = accepted} (λ m g. omega (arith, i.old m g)) i.rising;
  }

  -- every call at B's end
  pub keep : (x y : Receiving) (heard said : List Text) (taken accepted : List ℕ) → Rises x accepted
      → CoreEnds.Took E x y heard said taken → Rises y (taken ++ accepted)
  keep x y heard said taken accepted i (CoreEnds.Took.quiet k mute nil) = rw nil (stays x y accepted k.expected i)
  keep x y heard said taken accepted i (CoreEnds.Took.installed t n m there is cm late ex says one) =
      rw one (grows x y n accepted late ex i)
  keep x y heard said taken accepted i (CoreEnds.Took.answered t m there cm old k says nil) =
      rw nil (stays x y accepted k.expected i)
  keep x y heard said taken accepted i (CoreEnds.Took.dropped d m there hold by ex gone says nil) =
      rw nil (stays x y accepted ex i)
