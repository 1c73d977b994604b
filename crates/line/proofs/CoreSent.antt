-- What holds along a run of the two ends, and that every call at A's end keeps it.
use mathlib.Core.Path.{◌≡◌, refl, sym, ◌∙◌}
use mathlib.Core.List.Memᴰ
use mathlib.Core.List.{List, [], ◌∷◌, ◌++◌}
use mathlib.Core.Logic.{◌⊎◌, inl, inr, ⊎_elim}
use Prim.Native.Nat.{ℕ, suc, ◌≤◌, ◌<◌}
use native.Mathlib.Omega.{arith}
use Rattle.line.specs.Line.{◌∈◌}
use Rattle.line.proofs.CoreEnds
use Rattle.line.proofs.CoreEnds.{key_message, no_key_message, answer, Ends, Pair}

-- what is among a text and older ones
or_old : {A T : Type 0} {t u : T} {l : List T} → t ∈ (u ∷ l) → (t ≡ u → A) → (t ∈ l → A) → A
or_old {t = t} {u} {l} h f g = ⊎_elim (λ (p : t ≡ u). f p) (λ (p : t ∈ l). g p) (Memᴰ.cases_cons h)

module _ (E : Ends) where
  open E use {Text, Keys, Sending, Receiving, phase, next, outgoing, expected, incoming, holding}
  open E use {carries, calls, closes, answers, Sound}

  -- a key message that carries these keys, with the count before this one
  pub record Newest (l : List Text) (k : Keys) (next : ℕ) : Type 0 where
    pub text : Text
    pub number : ℕ
    pub there : text ∈ l
    pub is : carries text ≡ key_message number k
    pub newest : suc number ≡ next

  -- the newest key message stands for the outgoing keys
  abbrev pub Standing : Sending → List Text → Type 0
  Standing x l = Newest l (outgoing x) (next x)

  -- the key message that the incoming keys came in
  abbrev pub Source : List Text → Receiving → Type 0
  Source l y = Newest l (incoming y) (expected y)

  pub record Closing (l : List Text) (k : Keys) (m : ℕ) : Type 0 where
    pub dsm : Text
    pub there : dsm ∈ l
    pub is : closes dsm k m

  pub record Shut (l : List Text) (t : Text) (m : ℕ) : Type 0 where
    pub number : ℕ
    pub keys : Keys
    pub is : carries t ≡ key_message number keys
    pub by : Closing l keys m

  -- the key message that an answer with this MAC answers; it was taken
  pub record Root (l : List Text) (e m : ℕ) : Type 0 where
    pub text : Text
    pub there : text ∈ l
    pub why : (calls text ≡ answer m) ⊎ Shut l text m
    pub old : (n : ℕ) (k : Keys) → carries text ≡ key_message n k → n < e

  -- the key message that a closing closes; it no longer stands
  pub record Ended (x : Sending) (l : List Text) (d : Text) : Type 0 where
    pub text : Text
    pub number : ℕ
    pub keys : Keys
    pub mac : ℕ
    pub there : text ∈ l
    pub is : carries text ≡ key_message number keys
    pub by : closes d keys mac
    pub over : 1 ≤ phase x → phase x ≤ 2 → suc number < next x

  pub record Along (s : Pair Sending Receiving Text) : Type 0 where
    pub below : (t : Text) (n : ℕ) (k : Keys) → t ∈ s.from_a → carries t ≡ key_message n k → n < next s.a
    pub once : (t u : Text) (n : ℕ) (j k : Keys) → t ∈ s.from_a → u ∈ s.from_a → carries t ≡ key_message n j
        → carries u ≡ key_message n k → j ≡ k
    pub bound : expected s.b ≤ next s.a
    pub standing : 1 ≤ phase s.a → phase s.a ≤ 2 → Standing s.a s.from_a
    pub answered : (r : Text) (m : ℕ) → r ∈ s.from_b → answers r ≡ answer m → Root s.from_a (expected s.b) m
    pub held : (t : Text) (n : ℕ) (k : Keys) → t ∈ s.from_a → carries t ≡ key_message n k → suc n ≡ expected s.b
        → (k ≡ incoming s.b) ⊎ ((m : ℕ) × Closing s.from_a k m)
    pub source : holding s.b → Source s.from_a s.b
    pub ended : (d : Text) (k : Keys) (m : ℕ) → d ∈ s.from_a → closes d k m → Ended s.a s.from_a d
    pub sound : (t : Text) (n : ℕ) (k : Keys) → t ∈ s.from_a → carries t ≡ key_message n k → Sound t n k
    pub agreed : phase s.a ≡ 2 → expected s.b ≡ next s.a
    pub taken : (t : Text) (n : ℕ) (k : Keys) → t ∈ s.from_a → carries t ≡ key_message n k → suc n ≡ expected s.b
        → n ∈ s.accepted

  -- after a call at A's end
  abbrev pub next_a : Pair Sending Receiving Text → Sending → List Text → Pair Sending Receiving Text
  next_a s y said =
      record { a = y; b = s.b; from_a = said ++ s.from_a; from_b = s.from_b; accepted = s.accepted }

  -- ---- more was said

  up_closing : (said l : List Text) (k : Keys) (m : ℕ) → Closing l k m → Closing (said ++ l) k m
  up_closing said l k m c = record { dsm = c.dsm; there = Memᴰ.append_right said c.there; is = c.is }

  up_shut : (said l : List Text) (t : Text) (m : ℕ) → Shut l t m → Shut (said ++ l) t m
  up_shut said l t m p =
      record { number = p.number; keys = p.keys; is = p.is; by = up_closing said l p.keys m p.by }

  up_root : (said l : List Text) (e m : ℕ) → Root l e m → Root (said ++ l) e m
  up_root said l e m r = record {
    text = r.text;
    there = Memᴰ.append_right said r.there;
    why = ⊎_elim (λ (p : calls r.text ≡ answer m). inl p)
        (λ (p : Shut l r.text m). inr (up_shut said l r.text m p))
        r.why;
    old = r.old;
  }

  up_held : (said l : List Text) (k i : Keys) → (k ≡ i) ⊎ ((m : ℕ) × Closing l k m)
      → (k ≡ i) ⊎ ((m : ℕ) × Closing (said ++ l) k m)
  up_held said l k i h =
      ⊎_elim (λ (p : k ≡ i). inl p) (λ (p : (m : ℕ) × Closing l k m). inr (p.0, up_closing said l k p.0 p.1)) h

  up_newest : (said l : List Text) (k : Keys) (n : ℕ) → Newest l k n → Newest (said ++ l) k n
  up_newest said l k n p = record {
    text = p.text;
    number = p.number;
    there = Memᴰ.append_right said p.there;
    is = p.is;
    newest = p.newest;
  }

  up_ended : (said l : List Text) (x y : Sending) (d : Text) (p : Ended x l d)
      → (1 ≤ phase y → phase y ≤ 2 → suc p.number < next y) → Ended y (said ++ l) d
  up_ended said l x y d p over = record {
    text = p.text;
    number = p.number;
    keys = p.keys;
    mac = p.mac;
    there = Memᴰ.append_right said p.there;
    is = p.is;
    by = p.by;
    over = over;
  }

  older : (said l : List Text) → ((t : Text) → t ∈ said → carries t ≡ no_key_message)
      → (t : Text) (n : ℕ) (k : Keys) → t ∈ (said ++ l) → carries t ≡ key_message n k → t ∈ l
  older said l mute t n k h e =
      ⊎_elim
      (λ (i : t ∈ said).
      let p : carries t ≡ no_key_message = mute t i in
      let z : ◌≡◌ {A = ℕ} 0 1 = cc in absurd (omega arith))
      (λ (i : t ∈ l). i) (Memᴰ.append_cases said h)

  -- ---- a call at A's end that builds no key message

  pass_a : (s : Pair Sending Receiving Text) (y : Sending) (said : List Text) → Along s
      → ((t : Text) → t ∈ said → carries t ≡ no_key_message) → next s.a ≤ next y
      → (1 ≤ phase y → phase y ≤ 2
      → (1 ≤ phase s.a) × (phase s.a ≤ 2) × (next y ≡ next s.a) × (outgoing y ≡ outgoing s.a))
      → (phase y ≡ 2 → expected s.b ≡ next y)
      → ((d : Text) (k : Keys) (m : ℕ) → d ∈ said → closes d k m → Ended y (said ++ s.from_a) d)
      → Along (next_a s y said)
  pass_a s y said i mute up stands agree ends = record {
    below = λ t n k h e. let g : n < next s.a = i.below t n k (old t n k h e) e in omega arith;
    once = λ t u n j k ht hu et eu. i.once t u n j k (old t n j ht et) (old u n k hu eu) et eu;
    bound = omega (arith, i.bound);
    standing = λ l g.
        let q = stands l g in
        rw (q.2, q.3) (up_newest said s.from_a (outgoing s.a) (next s.a) (i.standing q.0 q.1));
    answered = λ r m h e. up_root said s.from_a (expected s.b) m (i.answered r m h e);
    held = λ t n k h e g. up_held said s.from_a k (incoming s.b) (i.held t n k (old t n k h e) e g);
    source = λ h. up_newest said s.from_a (incoming s.b) (expected s.b) (i.source h);
    ended = λ d k m h c.
        ⊎_elim (λ (g : d ∈ said). ends d k m g c)
        (λ (g : d ∈ s.from_a).
        let p = i.ended d k m g c in
        up_ended said s.from_a s.a y d p (λ l g. let q = stands l g in omega (arith, p.over q.0 q.1)))
        (Memᴰ.append_cases said h);
    sound = λ t n k h e. i.sound t n k (old t n k h e) e;
    agreed = agree;
    taken = λ t n k h e g. i.taken t n k (old t n k h e) e g;
  }
    where
      old : (t : Text) (n : ℕ) (k : Keys) → t ∈ (said ++ s.from_a) → carries t ≡ key_message n k → t ∈ s.from_a
      old = older said s.from_a mute

  -- ---- a key message is built

  built_a : (s : Pair Sending Receiving Text) (y : Sending) (t₀ : Text) → Along s
      → carries t₀ ≡ key_message (next s.a) (outgoing y)
      → Sound t₀ (next s.a) (outgoing y) → ((k : Keys) (m : ℕ) → closes t₀ k m → ⊥) → phase y ≡ 1
      → next y ≡ suc (next s.a) → Along (next_a s y (t₀ ∷ []))
  built_a s y t₀ i is fine plain ph nx = record {
    below = λ t n k h e.
        or_old h (λ g. let q : n ≡ next s.a = cc in omega arith) (λ g. omega (arith, i.below t n k g e));
    once = λ t u n j k ht hu et eu.
        or_old ht
        (λ g. or_old hu (λ f. cc) (λ f.
        let q : n ≡ next s.a = cc in absurd (omega (arith, i.below u n k f eu))))
        (λ g. or_old hu (λ f.
        let q : n ≡ next s.a = cc in absurd (omega (arith, i.below t n j g et)))
        (λ f. i.once t u n j k g f et eu));
    bound = omega (arith, i.bound);
    standing = λ _ _.
        record { text = t₀; number = next s.a; there = Memᴰ.head refl; is = is; newest = sym nx };
    answered = λ r m h e. up_root (t₀ ∷ []) s.from_a (expected s.b) m (i.answered r m h e);
    held = λ t n k h e g.
        or_old h (λ f. let q : n ≡ next s.a = cc in absurd (omega (arith, i.bound)))
        (λ f. up_held (t₀ ∷ []) s.from_a k (incoming s.b) (i.held t n k f e g));
    source = λ h. up_newest (t₀ ∷ []) s.from_a (incoming s.b) (expected s.b) (i.source h);
    ended = λ d k m h c.
        or_old h (λ f. absurd (plain k m (rw f at c)))
        (λ f.
        let p = i.ended d k m f c in
        up_ended (t₀ ∷ []) s.from_a s.a y d p
        (λ l g. omega (arith, i.below p.text p.number p.keys p.there p.is)));
    sound = λ t n k h e.
        or_old h
        (λ f.
        let q : n ≡ next s.a = cc in
        let p : k ≡ outgoing y = cc in rw (f, q, p) fine)
        (λ f. i.sound t n k f e);
    agreed = λ e. absurd (omega arith);
    taken = λ t n k h e g.
        or_old h (λ f. let q : n ≡ next s.a = cc in absurd (omega (arith, i.bound))) (λ f. i.taken t n k f e g);
  }

  -- ---- the answer that confirms: B took the standing key message

  meets : (s : Pair Sending Receiving Text) → Along s → CoreEnds.Apart E s.from_a → (r : Text) (m : ℕ) → r ∈ s.from_b
      → answers r ≡ answer m → ((t : Text) (n : ℕ) → carries t ≡ key_message n (outgoing s.a) → calls t ≡ answer m)
      → phase s.a ≡ 1 → expected s.b ≡ next s.a
  meets s i d r m h e fits ph =
      let p : Standing s.a s.from_a = i.standing (omega arith) (omega arith) in
      let q : Root s.from_a (expected s.b) m = i.answered r m h e in
      let c : calls p.text ≡ answer m = fits p.text p.number p.is in
      let same : q.text ≡ p.text =
      ⊎_elim
      (λ (w : calls q.text ≡ answer m). d.distinct q.text p.text m q.there p.there w c)
      (λ (w : Shut s.from_a q.text m).
      d.apart w.by.dsm q.text p.text w.number w.keys m w.by.there q.there p.there
      w.is w.by.is c)
      q.why in
      let lt : p.number < expected s.b = q.old p.number (outgoing s.a) (rw same p.is) in
      omega (arith, i.bound, p.newest)

  -- ---- every call at A's end

  pub keep_a : (s : Pair Sending Receiving Text) (y : Sending) (said : List Text) → Along s → CoreEnds.Apart E s.from_a
      → CoreEnds.Made E s.a y s.from_b said → Along (next_a s y said)
  keep_a s y said i d (CoreEnds.Made.quiet z mute) =
      pass_a s y said i (λ t h. (mute t h).key) (omega (arith, z.next))
      (λ l g. (omega (arith, z.phase), omega (arith, z.phase), z.next, z.outgoing))
      (λ e. i.agreed (sym z.phase ∙ e) ∙ sym z.next) (λ t k m h c. absurd ((mute t h).close k m c))
  keep_a s y said i d (CoreEnds.Made.built t₀ only is fine plain ph nx) = rw only (built_a s y t₀ i is fine plain ph nx)
  keep_a s y said i d (CoreEnds.Made.confirmed r m h e fits ph ph' nx out mute) =
      pass_a s y said i (λ t h. (mute t h).key) (omega arith) (λ l g. (omega arith, omega arith, nx, out))
      (λ e'. meets s i d r m h e fits ph ∙ sym nx) (λ t k m h c. absurd ((mute t h).close k m c))
  keep_a s y said i d (CoreEnds.Made.broken p₁ p₂ up mute) =
      pass_a s y said i (λ t h. (mute t h).key) up (λ l g. absurd (omega arith)) (λ e. absurd (p₂ e))
      (λ t k m h c. absurd ((mute t h).close k m c))
  keep_a s y said i d (CoreEnds.Made.closed t₀ m₀ only mute ph by p₁ p₂ nx) =
      rw only
      (pass_a s y (t₀ ∷ []) i (λ t h. rw (Memᴰ.eq_of_singleton h) mute) (omega arith)
      (λ l g. absurd (omega arith)) (λ e. absurd (p₂ e)) end)
    where
      end : (t : Text) (k : Keys) (m : ℕ) → t ∈ (t₀ ∷ []) → closes t k m → Ended y (t₀ ∷ s.from_a) t
      end t k m h c =
          let p = i.standing (omega arith) (omega arith) in
          record {
            text = p.text;
            number = p.number;
            keys = outgoing s.a;
            mac = m₀;
            there = Memᴰ.tail p.there;
            is = p.is;
            by = rw (Memᴰ.eq_of_singleton h) by;
            over = λ l g. absurd (omega arith);
          }
