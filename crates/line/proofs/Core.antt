-- The theorem over the two ends: it holds at the beginning, and along a run it says what confirmation means.
use mathlib.Core.Path.{◌≡◌, sym, ◌∙◌}
use mathlib.Core.Logic.{inl, ⊎_elim}
use Prim.Native.Nat.{ℕ}
use native.Mathlib.Omega.{arith}
use Rattle.line.specs.Line.{◌∈◌}
use Rattle.line.proofs.CoreEnds
use Rattle.line.proofs.CoreEnds.{key_message, no_key_message, Ends, Pair}
use Rattle.line.proofs.CoreSent

module _ (E : Ends) where
  open E use {Text, Keys, Sending, Receiving, phase, next, outgoing, expected, incoming, holding}
  open E use {carries, calls, closes, answers, Sound}

  pub beginning : (s : Pair Sending Receiving Text) → CoreEnds.Begins E s → CoreSent.Along E s
  beginning s f = record {
    below = λ t n k h e. never t n k h e;
    once = λ t u n j k h g e e'. never t n j h e;
    bound = f.level;
    standing = λ l g. absurd (omega (arith, f.idle));
    answered = λ r m h e.
        let p = f.others r m h e in
        record { text = p.0; there = p.1; why = inl p.2; old = λ n k g. never p.0 n k p.1 g };
    held = λ t n k h e g. never t n k h e;
    source = λ h. absurd (f.empty h);
    sound = λ t n k h e. never t n k h e;
    ended = λ d k m h c. absurd ((f.none_sent d h).close k m c);
    agreed = λ e. absurd (omega (arith, f.idle));
    taken = λ t n k h e g. never t n k h e;
  }
    where
      never : {A : Type 0} (t : Text) (n : ℕ) (k : Keys) → t ∈ s.from_a → carries t ≡ key_message n k → A
      never t n k h e =
          let p : carries t ≡ no_key_message = (f.none_sent t h).key in
          let z : ◌≡◌ {A = ℕ} 0 1 = cc in absurd (omega arith)

  pub conclusion : (s : Pair Sending Receiving Text) → CoreSent.Along E s → CoreEnds.Apart E s.from_a → phase s.a ≡ 2
      → CoreEnds.Meets E s
  conclusion s i d ph = record {
    message = p.text;
    number = p.number;
    sent = p.there;
    is = p.is;
    a_count = sym p.newest;
    b_count = i.agreed ph ∙ sym p.newest;
    took = i.taken p.text p.number (outgoing s.a) p.there p.is (p.newest ∙ sym (i.agreed ph));
    keys = ⊎_elim (λ (q : outgoing s.a ≡ incoming s.b). sym q)
        (λ (q : (m : ℕ) × CoreSent.Closing E s.from_a (outgoing s.a) m). never q)
        (i.held p.text p.number (outgoing s.a) p.there p.is (p.newest ∙ sym (i.agreed ph)));
  }
    where
      p : CoreSent.Standing E s.a s.from_a
      p = i.standing (omega arith) (omega arith)

      -- a closed key message does not stand
      never : {A : Type 0} → (m : ℕ) × CoreSent.Closing E s.from_a (outgoing s.a) m → A
      never q =
          let c : CoreSent.Closing E s.from_a (outgoing s.a) q.0 = q.1 in
          let x : CoreSent.Ended E s.a s.from_a c.dsm =
          i.ended c.dsm (outgoing s.a) q.0 c.there c.is in
          let same : x.text ≡ p.text =
          d.own c.dsm x.text p.text x.number p.number x.keys (outgoing s.a) x.mac q.0
          c.there x.there p.there x.is p.is x.by c.is in
          let number : x.number ≡ p.number = cc (same, x.is, p.is) in
          absurd (omega (arith, x.over (omega arith) (omega arith), p.newest))
