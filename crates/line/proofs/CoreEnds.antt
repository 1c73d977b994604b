-- What the theorem needs to know of the two ends, whatever the cards are: what a text is on its way, what A's sending
-- unit and B's receiving unit hold, and what a call may do at either end. It is wide enough for levels, closings and answers that are given again.
use mathlib.Core.Path.{◌≡◌, refl}
use mathlib.Core.List.{List, [], ◌∷◌}
use mathlib.Core.Logic.{◌≢◌}
use Prim.Native.Nat.{ℕ, suc, ◌≤◌, ◌<◌}
use Rattle.line.specs.Line.{◌∈◌}

-- on the way from A to B: a key message with its count and the keys and names that it carries, or none
pub data Carried (K : Type 0) : Type 0 where
  key_message : ℕ → K → Carried K
  no_key_message : Carried K

-- on the way from B to A: an answer with its MAC, or none
pub data Answer : Type 0 where
  answer : ℕ → Answer
  no_answer : Answer

pub record Ends : Type 1 where
  pub Text : Type 0
  pub Keys : Type 0
  pub Sending : Type 0
  pub phase : Sending → ℕ
  pub next : Sending → ℕ
  pub outgoing : Sending → Keys
  pub Receiving : Type 0
  pub expected : Receiving → ℕ
  pub incoming : Receiving → Keys
  -- incoming keys are held
  pub holding : Receiving → Type 0
  -- of a text of A's for B: the key message of this level that it is
  pub carries : Text → Carried Keys
  -- of any key message of A's for B, of any level: the MAC of the answer that it calls for
  pub calls : Text → Answer
  -- the text is a closing of A's for B, under a key of this set, and calls for an answer with this MAC
  pub closes : Text → Keys → ℕ → Type 0
  -- of a text of B's for A: the answer that it is
  pub answers : Text → Answer
  -- what is known besides of a key message that was built
  pub Sound : Text → ℕ → Keys → Type 0

-- the two units, A's of sending to B and B's of receiving from A, and what both have written so far, the newest first
pub record Pair (S R T : Type 0) : Type 0 where
  pub a : S
  pub b : R
  pub from_a : List T
  pub from_b : List T
  pub accepted : List ℕ

module _ (E : Ends) where
  open E use {Text, Keys, Sending, Receiving, phase, next, outgoing, expected, incoming, holding}
  open E use {carries, calls, closes, answers, Sound}

  -- the premises on MACs
  pub record Apart (l : List Text) : Type 0 where
    -- no two of A's key messages call for answers with equal MACs
    pub distinct : (t u : Text) (m : ℕ) → t ∈ l → u ∈ l → calls t ≡ answer m → calls u ≡ answer m → t ≡ u
    -- no closing of A's authenticates under a key of any other key message
    pub own : (d t u : Text) (n o : ℕ) (j k : Keys) (m p : ℕ) → d ∈ l → t ∈ l → u ∈ l → carries t ≡ key_message n j
        → carries u ≡ key_message o k → closes d j m → closes d k p → t ≡ u
    -- no answer to a closing has the MAC called for by a key message other than the one its key came in
    pub apart : (d t u : Text) (n : ℕ) (k : Keys) (m : ℕ) → d ∈ l → t ∈ l → u ∈ l → carries t ≡ key_message n k
        → closes d k m → calls u ≡ answer m → t ≡ u

  -- ---- what a call may do at A's end

  -- a text that the theorem does not count
  pub record Idle (t : Text) : Type 0 where
    pub key : carries t ≡ no_key_message
    pub close : (k : Keys) (m : ℕ) → closes t k m → ⊥

  -- the sending unit stays
  pub record Lasts (x y : Sending) : Type 0 where
    pub phase : phase y ≡ phase x
    pub next : next y ≡ next x
    pub outgoing : outgoing y ≡ outgoing x

  pub lasts : (x : Sending) → Lasts x x
  lasts x = record { phase = refl; next = refl; outgoing = refl }

  pub data Made (x y : Sending) (heard said : List Text) : Type 0 where
    -- nothing at this level
    quiet : Lasts x y → ((t : Text) → t ∈ said → Idle t) → Made x y heard said
    -- a key message with the next send count and the outgoing keys
    built : (t : Text) → said ≡ t ∷ [] → carries t ≡ key_message (next x) (outgoing y) → Sound t (next x) (outgoing y)
        → ((k : Keys) (m : ℕ) → closes t k m → ⊥) → phase y ≡ 1 → next y ≡ suc (next x) → Made x y heard said
    -- an answer came that every key message with the outgoing keys calls for
    confirmed : (r : Text) (m : ℕ) → r ∈ heard → answers r ≡ answer m
        → ((t : Text) (n : ℕ) → carries t ≡ key_message n (outgoing x) → calls t ≡ answer m) → phase x ≡ 1 → phase y ≡ 2
        → next y ≡ next x → outgoing y ≡ outgoing x → ((t : Text) → t ∈ said → Idle t) → Made x y heard said
    -- an error, or given up
    broken : phase y ≢ 1 → phase y ≢ 2 → next x ≤ next y → ((t : Text) → t ∈ said → Idle t) → Made x y heard said
    -- a closing
    closed : (t : Text) (m : ℕ) → said ≡ t ∷ [] → carries t ≡ no_key_message → phase x ≡ 2 → closes t (outgoing x) m
        → phase y ≢ 1 → phase y ≢ 2 → next y ≡ next x → Made x y heard said

  -- ---- what a call may do at B's end

  -- the receiving unit stays
  pub record Keeps (x y : Receiving) : Type 0 where
    pub expected : expected y ≡ expected x
    pub incoming : incoming y ≡ incoming x
    pub holding : holding y → holding x

  pub keeps : (x : Receiving) → Keeps x x
  keeps x = record { expected = refl; incoming = refl; holding = λ h. h }

  pub data Took (x y : Receiving) (heard said : List Text) (taken : List ℕ) : Type 0 where
    quiet : Keeps x y → ((t : Text) → t ∈ said → answers t ≡ no_answer) → taken ≡ [] → Took x y heard said taken
    -- a key message of A's: its keys and names are held, its count is passed, and the answer is the one called for
    installed : (t : Text) (n m : ℕ) → t ∈ heard → carries t ≡ key_message n (incoming y) → calls t ≡ answer m
        → expected x ≤ n → expected y ≡ suc n → ((r : Text) → r ∈ said → answers r ≡ answer m) → taken ≡ n ∷ []
        → Took x y heard said taken
    -- a key message that was passed, or one of another level: an answer and no change here
    answered : (t : Text) (m : ℕ) → t ∈ heard → calls t ≡ answer m
        → ((n : ℕ) (k : Keys) → carries t ≡ key_message n k → n < expected x) → Keeps x y
        → ((r : Text) → r ∈ said → answers r ≡ answer m) → taken ≡ [] → Took x y heard said taken
    -- a closing of A's under a key that is held
    dropped : (d : Text) (m : ℕ) → d ∈ heard → holding x → closes d (incoming x) m → expected y ≡ expected x
        → (holding y → ⊥) → ((r : Text) → r ∈ said → answers r ≡ answer m) → taken ≡ [] → Took x y heard said taken

  -- ---- how it begins: no key message of this level yet, and every answer so far answers one of another level

  pub record Begins (s : Pair Sending Receiving Text) : Type 0 where
    pub idle : phase s.a ≡ 0
    pub level : expected s.b ≤ next s.a
    pub none_sent : (t : Text) → t ∈ s.from_a → Idle t
    pub others : (r : Text) (m : ℕ) → r ∈ s.from_b → answers r ≡ answer m
        → (t : Text) × (t ∈ s.from_a) × (calls t ≡ answer m)
    pub empty : holding s.b → ⊥
    pub none_taken : s.accepted ≡ []

  -- ---- where it leads: the key message that carried A's keys and names under this count; B accepted that count and
  -- holds those

  pub record Meets (s : Pair Sending Receiving Text) : Type 0 where
    pub message : Text
    pub number : ℕ
    pub sent : message ∈ s.from_a
    pub is : carries message ≡ key_message number (outgoing s.a)
    pub a_count : next s.a ≡ suc number
    pub keys : incoming s.b ≡ outgoing s.a
    pub b_count : expected s.b ≡ suc number
    pub took : number ∈ s.accepted
