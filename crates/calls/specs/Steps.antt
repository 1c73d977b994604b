-- What is claimed of each step, in the paper's terms; proved as `steps` in proofs/Steps.antt.
use Rattle.std.specs.Prelude.{◌≡◌, Bool, true, false, ◌&&◌, ◌||◌, ◌++◌, [], ℕ, ◌+◌, ◌≤◌, eqb, Option, None, Some}
use Rattle.octets.specs.Text.{Text, ascii}
use Rattle.octets.specs.Part.{bare}
use Rattle.keying.specs.Parity.{odd}
use Rattle.csm.specs.Fields.{Kd, Class}
use Rattle.csm.specs.Message.{Ksm, Rsm, Esm, Rsi, rsi, ksm, rsm, esm, option}
use Rattle.partner.specs.declared.KeySet.{KeySet}
use Rattle.partner.specs.declared.Entry.{Entry}
use Rattle.partner.specs.Entry.{top_of, waiting, confirmed}
use Rattle.partner.specs.Table.{Table, legal}
use Rattle.calls.specs.declared.Request.{Request}
use Rattle.calls.specs.Outcome.{refusal, success, keys, confirmation, service, failure}
use Rattle.calls.specs.Build.{asked}
use Rattle.calls.specs.Calls.{receive, about, build_ksm, give_up, After, entry_of, run}
use Rattle.calls.specs.Claims.{Carries, Sized}
use Rattle.calls.specs.Good.{KdOf, Ours, in_clear, EvenOnlyUnmarked, Brings, FormedKsm, Sealed, InTurn}
use Rattle.calls.specs.Good.{GoodKsm, OddWhereMarked, FormedRequest, GoodRequest}
use Rattle.calls.specs.Results.{Tells, Judged, unless, told_unless, Accepts, Confirms, Breaks, raised_to, Keeps}
use Rattle.calls.specs.Results.{Builds}

-- a message of a partner that a card can answer: a legal table, room, and an entry for its originator
pub record Comes (t : Table) (room : ℕ) (id : Text) (e : Entry) : Type 0 where
  pub lawful : legal t ≡ true
  pub roomy : 256 ≤ room
  pub known : entry_of id t ≡ Some e

-- ---- a whole exchange: two cards that know each other, with the same top key and key name

pub record Partners (t u : Table) (e f : Entry) : Type 0 where
  pub ours : legal t ≡ true
  pub theirs : legal u ≡ true
  pub our_entry : entry_of (bare u.own) t ≡ Some e
  pub their_entry : entry_of (bare t.own) u ≡ Some f
  pub same_top : top_of e.top ≡ top_of f.top
  pub same_name : e.top.name ≡ f.top.name
  pub in_step : f.receiving.expected ≤ e.sending.next

-- the KSM is built, it is received, and the reply to it is received
abbrev pub after_built : Table → Table → Request → ℕ → After
after_built t u q room = run t (about (bare u.own) (build_ksm room q))

abbrev pub after_taken : Table → Table → Request → ℕ → After
after_taken t u q room = run u (receive room (after_built t u q room).outcome.reply)

abbrev pub after_confirmed : Table → Table → Request → ℕ → After
after_confirmed t u q room = run (after_built t u q room).table (receive room (after_taken t u q room).outcome.reply)

-- the IV and the date of a request
abbrev pub iv_asked : Request → Option ℕ
iv_asked q = asked (eqb q.kind 1 || eqb q.kind 2) q.iv

abbrev pub date_asked : Request → Option Text
date_asked q = asked (eqb q.dated 1) q.date.digits

-- both cards hold the keys of the request under one count, the IV and the date arrive, and the sender knows it
pub record Exchanged (t u : Table) (e : Entry) (q : Request) (room : ℕ) : Type 0 where
  pub built : (after_built t u q room).outcome.answer ≡ 0
  pub taken : (after_taken t u q room).outcome.answer ≡ 0
  pub returned : (after_taken t u q room).outcome.told ≡ keys (iv_asked q) (date_asked q)
  pub confirmation : (after_confirmed t u q room).outcome ≡ success [] confirmation
  pub ours : Entry
  pub theirs : Entry
  pub our_entry : entry_of (bare u.own) (after_confirmed t u q room).table ≡ Some ours
  pub their_entry : entry_of (bare t.own) (after_taken t u q room).table ≡ Some theirs
  pub phase : ours.sending.phase ≡ confirmed
  pub keys : Keeps q ours.sending.outgoing
  pub same_keys : theirs.receiving.incoming ≡ ours.sending.outgoing
  pub sent : ours.sending.next ≡ e.sending.next + 1
  pub accepted : theirs.receiving.expected ≡ e.sending.next + 1

pub record Steps : Type 0 where
  -- ---- a KSM
  -- an IDK2 that is not the entry's name: 4 with I, alone
  pub foreign_name_is_I : (t : Table) (room : ℕ) (text id : Text) (m : Ksm) (e : Entry) → Comes t room id e
      → Carries id (bare t.own) (ksm m) text
      → (k : Kd) → KdOf m k → (Ours e k → ⊥)
      → Tells (bare t.own) id (ascii "I") None None (run t (receive room text)).outcome
  -- a KD marked P and not of odd parity once deciphered: 4 with K, alone
  pub even_key_is_K : (t : Table) (room : ℕ) (text id : Text) (m : Ksm) (e : Entry) → Comes t room id e
      → Carries id (bare t.own) (ksm m) text
      → ((k : Kd) → KdOf m k → Ours e k)
      → (k : Kd) → KdOf m k → k.p ≡ true → odd (in_clear (bare t.own) e m k) ≡ false
      → Tells (bare t.own) id (ascii "K") None None (run t (receive room text)).outcome
  -- then F, M and P are all judged: 4 with all that hold; with P go CTP (ours, expected) and CTR (received)
  pub faults_are_told_together : (t : Table) (room : ℕ) (text id : Text) (m : Ksm) (e : Entry) (set : KeySet)
      (formed sealed counted : Bool) → Comes t room id e
      → Carries id (bare t.own) (ksm m) text
      → ((k : Kd) → KdOf m k → Ours e k) → ((k : Kd) → KdOf m k → EvenOnlyUnmarked (bare t.own) e m k) → Brings (bare t.own) e m set
      → Judged (FormedKsm set m) formed → Judged (Sealed set text m.mac) sealed
      → Judged (InTurn e.receiving.expected m.ctp) counted → formed && sealed && counted ≡ false
      → Tells (bare t.own) id (unless formed (ascii "F") ++ (unless sealed (ascii "M") ++ unless counted (ascii "P")))
      (told_unless counted e.receiving.expected) (told_unless counted m.ctp) (run t (receive room text)).outcome
  -- each good KSM is accepted
  pub good_ksm_is_accepted : (t : Table) (room : ℕ) (text id : Text) (m : Ksm) (e : Entry) → Comes t room id e
      → Carries id (bare t.own) (ksm m) text
      → GoodKsm (bare t.own) e text m → Accepts (bare t.own) id e m (run t (receive room text))
  -- and no other
  pub accepted_ksm_is_good : (t : Table) (room : ℕ) (text id : Text) (m : Ksm) (e : Entry)
      → Carries id (bare t.own) (ksm m) text → entry_of id t ≡ Some e
      → (run t (receive room text)).outcome.answer ≡ 0 → GoodKsm (bare t.own) e text m
  -- ---- an RSM
  -- not waiting, 5
  pub rsm_in_vain : (t : Table) (room : ℕ) (text id : Text) (m : Rsm) (e : Entry) → Comes t room id e
      → Carries id (bare t.own) (rsm m) text
      → (e.sending.phase ≡ waiting → ⊥) → (run t (receive room text)).outcome ≡ refusal 5
  -- MAC differs under the outgoing keys: 4 with M
  pub bad_rsm_is_M : (t : Table) (room : ℕ) (text id : Text) (m : Rsm) (e : Entry) → Comes t room id e
      → Carries id (bare t.own) (rsm m) text
      → e.sending.phase ≡ waiting → (Sealed e.sending.outgoing text m.mac → ⊥)
      → Tells (bare t.own) id (ascii "M") None None (run t (receive room text)).outcome
  -- otherwise 0, phase 2
  pub good_rsm_is_taken : (t : Table) (room : ℕ) (text id : Text) (m : Rsm) (e : Entry) → Comes t room id e
      → Carries id (bare t.own) (rsm m) text
      → e.sending.phase ≡ waiting → Sealed e.sending.outgoing text m.mac → Confirms id e (run t (receive room text))
  -- and no other
  pub taken_rsm_is_good : (t : Table) (room : ℕ) (text id : Text) (m : Rsm) (e : Entry)
      → Carries id (bare t.own) (rsm m) text → entry_of id t ≡ Some e
      → (run t (receive room text)).outcome.answer ≡ 0
      → (e.sending.phase ≡ waiting) × Sealed e.sending.outgoing text m.mac
  -- ---- an ESM
  -- not waiting, 5
  pub esm_in_vain : (t : Table) (room : ℕ) (text id : Text) (m : Esm) (e : Entry) → Comes t room id e
      → Carries id (bare t.own) (esm m) text
      → (e.sending.phase ≡ waiting → ⊥) → (run t (receive room text)).outcome ≡ refusal 5
  -- otherwise 0: phase 3, outgoing keys wiped; if it has CTP x, next send becomes the larger of itself and x
  pub esm_breaks : (t : Table) (room : ℕ) (text id : Text) (m : Esm) (e : Entry) → Comes t room id e
      → Carries id (bare t.own) (esm m) text
      → e.sending.phase ≡ waiting → Breaks id e (raised_to e.sending.next m.ctp) (run t (receive room text))
  -- and its letters are told
  pub esm_is_told : (t : Table) (room : ℕ) (text id : Text) (m : Esm) (e : Entry) → Comes t room id e
      → Carries id (bare t.own) (esm m) text
      → e.sending.phase ≡ waiting → (run t (receive room text)).outcome.told ≡ failure m.erf
  -- ---- an RSI: 0, the service wanted is returned; an option: 4 with O
  pub rsi_is_told : (t : Table) (room : ℕ) (text id : Text) (m : Rsi) (e : Entry) → Comes t room id e
      → Carries id (bare t.own) (rsi m) text
      → run t (receive room text) ≡ record { outcome = success [] (service m.svr); table = t }
  pub option_is_O : (t : Table) (room : ℕ) (text id : Text) (c : Class) (w : Text) (e : Entry) → Comes t room id e
      → Carries id (bare t.own) (option c w) text
      → Tells (bare t.own) id (ascii "O") None None (run t (receive room text)).outcome
  -- ---- build a KSM: 7, 8, 11, 12
  pub waiting_is_7 : (t : Table) (room : ℕ) (id : Text) (q : Request) (e : Entry) → Comes t room id e
      → e.sending.phase ≡ waiting → (run t (about id (build_ksm room q))).outcome ≡ refusal 7
  pub spent_is_8 : (t : Table) (room : ℕ) (id : Text) (q : Request) (e : Entry) → Comes t room id e
      → (e.sending.phase ≡ waiting → ⊥) → e.sending.next ≡ 99_999_999 → (run t (about id (build_ksm room q))).outcome ≡ refusal 8
  pub even_key_is_11 : (t : Table) (room : ℕ) (id : Text) (q : Request) (e : Entry) → Comes t room id e
      → (e.sending.phase ≡ waiting → ⊥) → (e.sending.next ≡ 99_999_999 → ⊥) → (OddWhereMarked q → ⊥)
      → (run t (about id (build_ksm room q))).outcome ≡ refusal 11
  pub malformed_is_12 : (t : Table) (room : ℕ) (id : Text) (q : Request) (e : Entry) → Comes t room id e
      → (e.sending.phase ≡ waiting → ⊥) → (e.sending.next ≡ 99_999_999 → ⊥) → OddWhereMarked q → (FormedRequest q → ⊥)
      → (run t (about id (build_ksm room q))).outcome ≡ refusal 12
  -- each good request is built
  pub good_request_is_built : (t : Table) (room : ℕ) (id : Text) (q : Request) (e : Entry) → Comes t room id e
      → GoodRequest e q → Builds (bare t.own) id e q (run t (about id (build_ksm room q)))
  -- and no other
  pub built_request_is_good : (t : Table) (room : ℕ) (id : Text) (q : Request) (e : Entry)
      → entry_of id t ≡ Some e → (run t (about id (build_ksm room q))).outcome.answer ≡ 0 → GoodRequest e q
  -- ---- give up: 5, else phase 3 and keys wiped
  pub give_up_in_vain : (t : Table) (id : Text) (e : Entry) → legal t ≡ true → entry_of id t ≡ Some e
      → (e.sending.phase ≡ waiting → ⊥) → (run t (about id give_up)).outcome ≡ refusal 5
  pub give_up_breaks : (t : Table) (id : Text) (e : Entry) → legal t ≡ true → entry_of id t ≡ Some e
      → e.sending.phase ≡ waiting → Breaks id e e.sending.next (run t (about id give_up))
  -- ---- what one card builds the other accepts, and its reply is taken: both hold the keys
  pub exchange : (t u : Table) (e f : Entry) (q : Request) (room : ℕ) → Partners t u e f → GoodRequest e q → Sized q
      → 256 ≤ room → Exchanged t u e q room
