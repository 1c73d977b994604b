-- What holds of each card along a run, and the laws of the interface between it and the theorem.
use Rattle.std.specs.Prelude.{Option, None, Some}
use mathlib.Core.Path.{◌≡◌, refl, sym, ap, ◌∙◌}
use mathlib.Core.List.{List}
use mathlib.Core.Logic.{◌⊎◌, inl, inr, ⊎_elim}
use Prim.Native.Nat.{ℕ}
use native.Mathlib.Omega.{arith}
use Rattle.octets.specs.Text.{Text}
use Rattle.octets.specs.Part.{bare}
use Rattle.keying.specs.declared.Top.{Top}
use Rattle.partner.specs.declared.Entry.{Entry}
use Rattle.partner.specs.Entry.{name_of, top_of}
use Rattle.partner.specs.Changes.{loaded}
use Rattle.partner.specs.Table.{Table}
use Rattle.calls.specs.Calls.{Call, entry_of, run}
use Rattle.calls.proofs.Claims as call
use Rattle.line.specs.Line.{texts, counted, Allowed, entry_for, Fresh}
use Rattle.line.proofs.CoreEnds
use Rattle.line.proofs.CardCall.{Local, elsewhere, here, loads}
use Rattle.line.proofs.CardRun.{run_local}
use Rattle.line.proofs.CardEnds.{top_loaded, ends, carried_away, answer_away}
use Rattle.line.proofs.CardTurn.{event_keeps, unsaid}
use Rattle.line.proofs.CardLaws.{idle_text, made_of, took_of}

-- ---- what holds of each card along a run

module _ (name : Text) (top : Top) where
  -- its entry for the other has the one key under the one name
  pub record Known (other : Text) (t : Table) : Type 0 where
    pub entry : Entry
    pub there : entry_of other t ≡ Some entry
    pub key : top_of entry.top ≡ top
    pub named : entry.top.name ≡ name_of name

  pub record Good (own other : Text) (t : Table) : Type 0 where
    pub identity : bare t.own ≡ own
    pub entry : (entry_of other t ≡ None) ⊎ Known other t

  known_loaded : (other : Text) (t : Table) → entry_of other t ≡ Some (entry_for name top other) → Known other t
  unfolding loaded
  known_loaded other t h =
      record { entry = entry_for name top other; there = h; key = top_loaded other name top; named = refl }

  pub good_fresh : (own other : Text) (t : Table) → Fresh name top own other t → Good own other t
  good_fresh own other t f = record {
    identity = f.identity;
    entry = ⊎_elim (λ (h : entry_of other t ≡ None). inl h)
        (λ (h : entry_of other t ≡ Some (entry_for name top other)). inr (known_loaded other t h)) f.entry;
  }

  known_stays : (other : Text) (t u : Table) → entry_of other u ≡ entry_of other t → Known other t → Known other u
  known_stays other t u h k = record { entry = k.entry; there = h ∙ k.there; key = k.key; named = k.named }

  -- the entry that is found is the one that is known
  pub known_is : (other : Text) (t : Table) (e : Entry) → entry_of other t ≡ Some e
      → (entry_of other t ≡ None) ⊎ Known other t → (top_of e.top ≡ top) × (e.top.name ≡ name_of name)
  known_is other t e h (inl n) = absurd (let z : ◌≡◌ {A = ℕ} 0 1 = cc in omega arith)
  known_is other t e h (inr k) =
      let p : k.entry ≡ e = cc (h, k.there) in
      (ap (λ (x : Entry). top_of x.top) (sym p) ∙ k.key, ap (λ (x : Entry). x.top.name) (sym p) ∙ k.named)

  pub good_run : (own other : Text) (l : List Text) (t : Table) (c : Call) → Good own other t
      → Allowed name top other l c (run t c).outcome.answer → Good own other (run t c).table
  good_run own other l t c g may = record {
    identity = ap bare ((call.claims).own_stays t c) ∙ g.identity;
    entry = go (run_local name top own other l t c g.identity may);
  }
    where
      go : {k : List ℕ} → Local name top own other l t (run t c) k
          → (entry_of other (run t c).table ≡ None) ⊎ Known other (run t c).table
      go (elsewhere kept away mute) =
          ⊎_elim (λ (h : entry_of other t ≡ None). inl (kept ∙ h))
          (λ (h : Known other t). inr (known_stays other t (run t c).table kept h)) g.entry
      go (here e x found lawful them named ev now reply) =
          let k = known_is other t e found g.entry in
          inr (record {
            entry = x.entry;
            there = now;
            key = ap top_of (event_keeps ev).1 ∙ k.0;
            named = ap (λ x. x.name) (event_keeps ev).1 ∙ k.1;
          })
      go (loads absent now reply mute) = inr (known_loaded other (run t c).table now)

  -- the other's entry stays in the table
  pub there_still : (other : Text) (l : List Text) (t : Table) (c : Call)
      → Allowed name top other l c (run t c).outcome.answer → (e : Entry) → entry_of other t ≡ Some e
      → (f : Entry) × (entry_of other (run t c).table ≡ Some f)
  there_still other l t c may e h = go (run_local name top (bare t.own) other l t c refl may)
    where
      go : {k : List ℕ} → Local name top (bare t.own) other l t (run t c) k
          → (f : Entry) × (entry_of other (run t c).table ≡ Some f)
      go (elsewhere kept away mute) = (e, kept ∙ h)
      go (here f x found lawful them named ev now reply) = (x.entry, now)
      go (loads absent now reply mute) = (entry_for name top other, now)

  -- ---- the entry for the other, as loading makes it where there is none

  unfoldable pub seen : Text → Option Entry → Entry
  seen other None = entry_for name top other
  seen other (Some e) = e

  abbrev pub see : Text → Table → Entry
  see other t = seen other (entry_of other t)

module _ (a b name : Text) (top : Top) where
  abbrev pub E : CoreEnds.Ends
  E = ends a b name top

  -- what any call does at A's end, and at B's
  pub makes : (l : List Text) (t : Table) (c : Call) → Good name top a b t
      → Allowed name top b l c (run t c).outcome.answer
      → CoreEnds.Made E (see name top b t).sending (see name top b (run t c).table).sending l (texts (run t c).outcome.reply)
  unfolding seen
  makes l t c g may = go (run_local name top a b l t c g.identity may)
    where
      go : {k : List ℕ} → Local name top a b l t (run t c) k
          → CoreEnds.Made E (see name top b t).sending (see name top b (run t c).table).sending l (texts (run t c).outcome.reply)
      go (elsewhere kept away mute) =
          rw kept
          (CoreEnds.Made.quiet (CoreEnds.lasts E (see name top b t).sending) (λ x h.
          let p = away x h in
          idle_text a b name top l x (rw p.is (carried_away a b name top p.to a p.body p.not_them))))
      go {k} (here e x found lawful them named ev now reply) =
          rw (found, now, reply)
          (let known = known_is name top b t e found g.entry in
          made_of a b name top l e them known.0 known.1 lawful named x k ev)
      go (loads absent now reply mute) =
          rw (absent, now)
          (CoreEnds.Made.quiet (CoreEnds.lasts E (entry_for name top b).sending)
          (λ x h. unsaid (run t c).outcome.reply x reply h))

  pub takes : (l : List Text) (t : Table) (c : Call) → Good name top b a t
      → Allowed name top a l c (run t c).outcome.answer
      → CoreEnds.Took E (see name top a t).receiving (see name top a (run t c).table).receiving l (texts (run t c).outcome.reply)
      (counted a c (run t c).outcome.answer)
  unfolding seen
  takes l t c g may = go (run_local name top b a l t c g.identity may)
    where
      go : {k : List ℕ} → Local name top b a l t (run t c) k
          → CoreEnds.Took E (see name top a t).receiving (see name top a (run t c).table).receiving l (texts (run t c).outcome.reply) k
      go (elsewhere kept away mute) =
          rw kept
          (CoreEnds.Took.quiet (CoreEnds.keeps E _)
          (λ x h.
          let p = away x h in
          rw p.is (answer_away a b name top p.to b p.body p.not_them)) mute)
      go {k} (here e x found lawful them named ev now reply) =
          rw (found, now, reply)
          (took_of a b name top l e them (known_is name top a t e found g.entry).0 lawful named x k ev)
      go (loads absent now reply mute) =
          rw (absent, now)
          (CoreEnds.Took.quiet (CoreEnds.keeps E _)
          (λ x h. unsaid (run t c).outcome.reply x reply h) mute)
