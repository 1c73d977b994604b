-- Every call at B's end keeps what holds along a run.
use mathlib.Core.Path.{◌≡◌, sym, ap, ◌∙◌}
use mathlib.Core.List.Memᴰ
use mathlib.Core.List.{List, [], ◌∷◌, ◌++◌}
use mathlib.Core.Logic.{◌⊎◌, inl, inr, ⊎_elim}
use Prim.Native.Nat.{ℕ, suc, ◌≤◌}
use native.Mathlib.Omega.{arith}
use Rattle.line.specs.Line.{◌∈◌}
use Rattle.line.proofs.CoreEnds
use Rattle.line.proofs.CoreEnds.{key_message, answer, no_answer, Ends, Pair}
use Rattle.line.proofs.CoreSent

module _ (E : Ends) where
  open E use {Text, Keys, Sending, Receiving, phase, next, outgoing, expected, incoming, holding}
  open E use {carries, calls, closes, answers, Sound}

  -- after a call at B's end
  abbrev pub next_b : Pair Sending Receiving Text → Receiving → List Text → List ℕ → Pair Sending Receiving Text
  next_b s y said taken =
      record { a = s.a; b = y; from_a = s.from_a; from_b = said ++ s.from_b; accepted = taken ++ s.accepted }

  -- nothing is installed
  pass_b : (s : Pair Sending Receiving Text) (y : Receiving) (said : List Text) → CoreSent.Along E s → expected y ≡ expected s.b
      → ((t : Text) (n : ℕ) (k : Keys) → t ∈ s.from_a → carries t ≡ key_message n k → suc n ≡ expected s.b
      → (k ≡ incoming y) ⊎ ((m : ℕ) × CoreSent.Closing E s.from_a k m))
      → (holding y → CoreSent.Source E s.from_a y)
      → ((r : Text) (m : ℕ) → r ∈ said → answers r ≡ answer m → CoreSent.Root E s.from_a (expected s.b) m)
      → CoreSent.Along E (next_b s y said [])
  pass_b s y said i ex holds src new = record {
    below = i.below;
    once = i.once;
    bound = omega (arith, i.bound);
    standing = i.standing;
    answered = λ r m h e.
        rw ex (⊎_elim (λ (g : r ∈ said). new r m g e) (λ (g : r ∈ s.from_b). i.answered r m g e)
        (Memᴰ.append_cases said h));
    held = λ t n k h e g. holds t n k h e (g ∙ ex);
    source = src;
    ended = i.ended;
    sound = i.sound;
    agreed = λ e. ex ∙ i.agreed e;
    taken = λ t n k h e g. i.taken t n k h e (g ∙ ex);
  }

  -- the receiving side stays
  keeps_b : (s : Pair Sending Receiving Text) (y : Receiving) (said : List Text) → CoreSent.Along E s → CoreEnds.Keeps E s.b y
      → ((r : Text) (m : ℕ) → r ∈ said → answers r ≡ answer m → CoreSent.Root E s.from_a (expected s.b) m)
      → CoreSent.Along E (next_b s y said [])
  keeps_b s y said i k new =
      pass_b s y said i k.expected
      (λ t n j h e g.
      ⊎_elim (λ (p : j ≡ incoming s.b). inl (p ∙ sym k.incoming))
      (λ (p : (m : ℕ) × CoreSent.Closing E s.from_a j m). inr p) (i.held t n j h e g))
      (λ h. rw (k.incoming, k.expected) (i.source (k.holding h))) new

  -- a key message is taken
  installed_b : (s : Pair Sending Receiving Text) (y : Receiving) (said : List Text) → CoreSent.Along E s → (t : Text) (n m : ℕ)
      → t ∈ s.from_a → carries t ≡ key_message n (incoming y) → calls t ≡ answer m → expected s.b ≤ n
      → expected y ≡ suc n → ((r : Text) → r ∈ said → answers r ≡ answer m)
      → CoreSent.Along E (next_b s y said (n ∷ []))
  installed_b s y said i t₀ n₀ m₀ there is cm late ex says = record {
    below = i.below;
    once = i.once;
    bound = omega (arith, i.below t₀ n₀ (incoming y) there is);
    standing = i.standing;
    answered = λ r m h e.
        ⊎_elim
        (λ (g : r ∈ said).
        let p : answers r ≡ answer m₀ = says r g in
        record { text = t₀; there = there; why = inl cc; old = λ n k f. let q : n ≡ n₀ = cc in omega arith })
        (λ (g : r ∈ s.from_b).
        let p = i.answered r m g e in
        record { text = p.text; there = p.there; why = p.why; old = λ n k f. omega (arith, p.old n k f) })
        (Memᴰ.append_cases said h);
    held = λ t n k h e g.
        let q : n ≡ n₀ = omega arith in
        inl (i.once t t₀ n₀ k (incoming y) h there (e ∙ ap (λ (x : ℕ). key_message x k) q) is);
    source = λ h. record { text = t₀; number = n₀; there = there; is = is; newest = sym ex };
    ended = i.ended;
    sound = i.sound;
    agreed = λ e.
        let q : expected s.b ≡ next s.a = i.agreed e in
        absurd (omega (arith, i.below t₀ n₀ (incoming y) there is));
    taken = λ t n k h e g. let q : n ≡ n₀ = omega arith in Memᴰ.head q;
  }

  -- every call at B's end
  pub keep_b : (s : Pair Sending Receiving Text) (y : Receiving) (said : List Text) (taken : List ℕ) → CoreSent.Along E s
      → CoreEnds.Took E s.b y s.from_a said taken → CoreSent.Along E (next_b s y said taken)
  keep_b s y said taken i (CoreEnds.Took.quiet k mute nil) =
      rw nil
      (keeps_b s y said i k
      (λ r m h e.
      let p : answers r ≡ no_answer = mute r h in
      let z : ◌≡◌ {A = ℕ} 0 1 = cc in absurd (omega arith)))
  keep_b s y said taken i (CoreEnds.Took.installed t n m there is cm late ex says one) =
      rw one (installed_b s y said i t n m there is cm late ex says)
  keep_b s y said taken i (CoreEnds.Took.answered t m₀ there cm old k says nil) =
      rw nil
      (keeps_b s y said i k
      (λ r m h e.
      let p : answers r ≡ answer m₀ = says r h in record { text = t; there = there; why = inl cc; old = old }))
  keep_b s y said taken i (CoreEnds.Took.dropped d m₀ there hold by ex gone says nil) =
      rw nil (pass_b s y said i ex holds (λ h. absurd (gone h)) new)
    where
      holds : (t : Text) (n : ℕ) (k : Keys) → t ∈ s.from_a → carries t ≡ key_message n k → suc n ≡ expected s.b
          → (k ≡ incoming y) ⊎ ((m : ℕ) × CoreSent.Closing E s.from_a k m)
      holds t n k h e g =
          ⊎_elim (λ (p : k ≡ incoming s.b). inr (m₀, record { dsm = d; there = there; is = rw p by }))
          (λ (p : (m : ℕ) × CoreSent.Closing E s.from_a k m). inr p) (i.held t n k h e g)

      new : (r : Text) (m : ℕ) → r ∈ said → answers r ≡ answer m → CoreSent.Root E s.from_a (expected s.b) m
      new r m h e =
          let p : answers r ≡ answer m₀ = says r h in
          let q : CoreSent.Source E s.from_a s.b = i.source hold in
          let w : m₀ ≡ m = cc in
          record {
            text = q.text;
            there = q.there;
            why = inr (record {
              number = q.number;
              keys = incoming s.b;
              is = q.is;
              by = record { dsm = d; there = there; is = rw (← w) by };
            });
            old = λ n k f. let z : n ≡ q.number = cc (f, q.is) in omega (arith, q.newest);
          }
