-- A lawful format reads back what it prints, and what it reads is legal and printed so; formats put
-- together stay lawful.
use Rattle.std.specs.Prelude.{Option, None, Some}
use mathlib.Core.Path.{◌≡◌, refl, sym, ap, ◌∙◌, subst}
use mathlib.Core.Bool.{Bool, true, false, cond, ◌&&◌}
use mathlib.Core.List.{[], ◌∷◌, ◌++◌, append_assoc, append-nil}
use Prim.Native.Nat.{ℕ, suc, ◌<◌}
use lib.ListN.{length, get_or, take, drop}
use Rattle.octets.specs.Text.{Text, all, free, same}
use Rattle.octets.proofs.Comparing.{both as and_true, same_equal as same_true, same_self as same_refl}
use Rattle.csm.specs.Format.{Word, Format, bind, after, until, value, upto, just, pre, both}
use Rattle.csm.specs.Format.{maybe, maybe_legal, maybe_print, maybe_read, as_form, such_that, at_end}
use Rattle.csm.specs.Format.{whole}
use Rattle.csm.proofs.TextLaws.{some_inj, none_some, cond_some, bind_some}
use Rattle.csm.proofs.TextLaws.{all_free, after_there, after_back, until_there, until_back}
use Rattle.csm.proofs.TextLaws.{until_at, until_none}

-- a word's guess is right, and each byte of its text passes the test p
pub record Right {A : Type 0} (p : ℕ → Bool) (c : Word A) : Type 0 where
  pub right : (a : A) → c.legal a ≡ true → c.guess (c.text a) ≡ a
  pub chars : (a : A) → c.legal a ≡ true → all p (c.text a) ≡ true

pub record Lawful {A : Type 0} (c : Format A) : Type 0 where
  pub there : (a : A) (t : Text) → c.legal a ≡ true → c.read (c.print a ++ t) ≡ Some (a, t)
  pub back : (s : Text) (a : A) (t : Text) → c.read s ≡ Some (a, t)
      → (c.legal a ≡ true) × (s ≡ c.print a ++ t)

abbrev pub Back : {A : Type 0} → Format A → Text → A × Text → Type 0
Back c s o = (c.legal o.0 ≡ true) × (s ≡ c.print o.0 ++ o.1)

module _ {A : Type 0} (c : Word A) where
  pub value_there : (a : A) → c.guess (c.text a) ≡ a → c.legal a ≡ true → value c (c.text a) ≡ Some a
  value_there a g k = rw (g, k, same_refl (c.text a))

  pub value_back : (w : Text) (a : A) → value c w ≡ Some a → (c.legal a ≡ true) × (w ≡ c.text a)
  value_back w a e =
      let h = cond_some (c.legal (c.guess w) && same (c.text (c.guess w)) w) (Some (c.guess w)) a e in
      let k = and_true (c.legal (c.guess w)) (same (c.text (c.guess w)) w) h.0 in
      let i : c.guess w ≡ a = some_inj h.1 in
      let j : c.text (c.guess w) ≡ w = same_true (c.text (c.guess w)) w k.1 in
      (subst (λ (b : A). c.legal b ≡ true) i k.0, sym j ∙ ap c.text i)

-- a piece up to a byte that fails its test
pub upto_lawful : {A : Type 0} {p : ℕ → Bool} (x : ℕ) (c : Word A) → p x ≡ false → Right p c
    → Lawful (upto x c)
upto_lawful {p = p} x c z r = record {
  there = λ a t k.
      rw (
        append_assoc (c.text a) (x ∷ []) t,
        until_there x (c.text a) t (all_free p x z (c.text a) (r.chars a k)),
        value_there c a (r.right a k) k,
      );
  back = λ s a t e.
      let h = bind_some (until x s) (λ p. bind (value c p.0) (λ a. Some (a, p.1))) (a, t) e in
      let i = until_back x s h.0 h.1 in
      let k = bind_some (value c h.0.0) (λ a. Some (a, h.0.1)) (a, t) h.2 in
      let j = value_back c h.0.0 k.0 k.1 in
      subst (Back (upto x c) s) (some_inj k.2) (
        j.0,
        i ∙ ap (λ (l : Text). l ++ x ∷ h.0.1) j.1
            ∙ sym (append_assoc (c.text k.0) (x ∷ []) h.0.1),
      );
}

pub just_lawful : (w : Text) → Lawful (just w)
just_lawful w = record {
  there = λ u t k. rw (after_there w t);
  back = λ s u t e.
      let h = bind_some (after w s) (λ t. Some (tt, t)) (u, t) e in
      subst (Back (just w) s) (some_inj h.2) (refl, after_back w s h.0 h.1);
}

pub pre_lawful : {A : Type 0} (w : Text) {c : Format A} → Lawful c → Lawful (pre w c)
pre_lawful w {c} l = record {
  there = λ a t k. rw (append_assoc w (c.print a) t, after_there w (c.print a ++ t)) (l.there a t k);
  back = λ s a t e.
      let h = bind_some (after w s) c.read (a, t) e in
      let i = l.back h.0 a t h.2 in (
        i.0,
        after_back w s h.0 h.1 ∙ ap (λ (u : Text). w ++ u) i.1
            ∙ sym (append_assoc w (c.print a) t),
      );
}

module _ {A B : Type 0} {c : Format A} {d : Format B} (l : Lawful c) (m : Lawful d) where
  pub both_lawful : Lawful (both c d)
  both_lawful = record {
    there = λ p t k.
        let h = and_true (c.legal p.0) (d.legal p.1) k in
        rw (
          append_assoc (c.print p.0) (d.print p.1) t,
          l.there p.0 (d.print p.1 ++ t) h.0,
          m.there p.1 t h.1,
        );
    back = λ s p t e.
        let next : A × Text → Option ((A × B) × Text) =
        λ (p : A × Text). bind (d.read p.1) (λ q. Some ((p.0, q.0), q.1)) in
        let h = bind_some (c.read s) next (p, t) e in
        let a = h.0.0 in
        let u = h.0.1 in
        let k = bind_some (d.read u) (λ q. Some ((a, q.0), q.1)) (p, t) h.2 in
        let i = l.back s a u h.1 in
        let j = m.back u k.0.0 k.0.1 k.1 in
        let b = k.0.0 in
        let v = k.0.1 in
        subst (Back (both c d) s) (some_inj k.2) (
          rw i.0 j.0,
          i.1 ∙ ap (λ (x : Text). c.print a ++ x) j.1
              ∙ sym (append_assoc (c.print a) (d.print b) v),
        );
  }

  -- no text of d is one of c
  pub maybe_lawful : ((b : B) (t : Text) → c.read (d.print b ++ t) ≡ None) → Lawful (maybe c d)
  maybe_lawful apart = record {
    there = λ p t k.
        let h = and_true (maybe_legal c p.0) (d.legal p.1) k in
        there p.0 p.1 t h.0 h.1;
    back = λ s p t e. back s (c.read s) refl (p, t) e;
  }
    where
      there : (o : Option A) (b : B) (t : Text) → maybe_legal c o ≡ true → d.legal b ≡ true
          → maybe_read d ((maybe_print c o ++ d.print b) ++ t)
          (c.read ((maybe_print c o ++ d.print b) ++ t)) ≡ Some ((o, b), t)
      there None b t k h = rw (apart b t, m.there b t h)
      there (Some a) b t k h =
          rw (append_assoc (c.print a) (d.print b) t, l.there a (d.print b ++ t) k, m.there b t h)

      back : (s : Text) (g : Option (A × Text)) → c.read s ≡ g → (o : (Option A × B) × Text)
          → maybe_read d s g ≡ Some o → Back (maybe c d) s o
      back s None q o e =
          let h = bind_some (d.read s) (λ q. Some ((None, q.0), q.1)) o e in
          subst (Back (maybe c d) s) (some_inj h.2) (m.back s h.0.0 h.0.1 h.1)
      back s (Some p) q o e =
          let h = bind_some (d.read p.1) (λ q. Some ((Some p.0, q.0), q.1)) o e in
          let i = l.back s p.0 p.1 q in
          let j = m.back p.1 h.0.0 h.0.1 h.1 in
          let f = i.1 ∙ ap (λ (x : Text). c.print p.0 ++ x) j.1 in
          subst (Back (maybe c d) s) (some_inj h.2)
          (rw i.0 j.0, f ∙ sym (append_assoc (c.print p.0) (d.print h.0.0) h.0.1))

module _ {A B : Type 0} (f : A → B) (g : B → A) {c : Format A} (l : Lawful c) where
  pub as_form_lawful : ((a : A) → c.legal a ≡ true → g (f a) ≡ a) → ((b : B) → f (g b) ≡ b)
      → Lawful (as_form f g c)
  as_form_lawful gf fg = record {
    there = λ b t k. rw (l.there (g b) t k, fg b);
    back = λ s b t e.
        let h = bind_some (c.read s) (λ p. Some (f p.0, p.1)) (b, t) e in
        let i = l.back s h.0.0 h.0.1 h.1 in
        let shape : A → Type 0 = λ (a : A). (c.legal a ≡ true) × (s ≡ c.print a ++ h.0.1) in
        subst (Back (as_form f g c) s) (some_inj h.2) (subst shape (sym (gf h.0.0 i.0)) i);
  }

module _ {A : Type 0} {c : Format A} (l : Lawful c) where
  pub such_that_lawful : (f : A → Bool) → Lawful (such_that f c)
  such_that_lawful f = record {
    there = λ a t k. let h = and_true (c.legal a) (f a) k in rw (l.there a t h.0, h.1);
    back = λ s a t e.
        let h = bind_some (c.read s) (λ p. cond (f p.0) (Some p) None) (a, t) e in
        let k = cond_some (f h.0.0) (Some h.0) (a, t) h.2 in
        let i = l.back s h.0.0 h.0.1 h.1 in
        subst (Back (such_that f c) s) (some_inj k.1) (rw i.0 k.0, i.1);
  }

  pub whole_there : (a : A) → c.legal a ≡ true → whole c (c.print a) ≡ Some a
  whole_there a k = rw (← append-nil (c.print a)) (rw (l.there a [] k))

  pub whole_back : (s : Text) (a : A) → whole c s ≡ Some a → (c.legal a ≡ true) × (s ≡ c.print a)
  whole_back s a e =
      let h = bind_some (c.read s) at_end a e in
      let i = l.back s h.0.0 h.0.1 h.1 in
      go h.0.0 h.0.1 h.2 i.0 i.1
    where
      go : (b : A) (t : Text) → at_end (b, t) ≡ Some a → c.legal b ≡ true → s ≡ c.print b ++ t
          → (c.legal a ≡ true) × (s ≡ c.print a)
      go b [] e k q =
          let i : b ≡ a = some_inj e in
          (subst (λ (x : A). c.legal x ≡ true) i k, q ∙ append-nil (c.print b) ∙ ap c.print i)
      go b (x ∷ t) e k q = absurd (none_some _ e)

-- ---- for programs: a piece ends at a place

pub upto_read : {A : Type 0} (x : ℕ) (c : Word A) (s : Text) (n : ℕ) → n < length s
    → free x (take n s) ≡ true → get_or s n 0 ≡ x
    → (upto x c).read s ≡ bind (value c (take n s)) (λ a. Some (a, drop (suc n) s))
upto_read x c s n h k e = rw (until_at x s n h k e)

pub upto_none : {A : Type 0} (x : ℕ) (c : Word A) (s : Text) → free x s ≡ true → (upto x c).read s ≡ None
upto_none x c s k = rw (until_none x s k)
