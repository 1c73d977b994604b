-- A run of two hosts with their images is a run of the two cards of crate `line`: keys agree, and counts rise.
use Rattle.std.specs.Prelude.{Some}
use mathlib.Core.Path.{◌≡◌, sym, ap, ◌∙◌, subst}
use mathlib.Core.List.{List, ◌++◌}
use Prim.Native.Nat.{ℕ, ◌≤◌}
use lib.ListN.{length}
use Rattle.octets.specs.Text.{Text}
use Rattle.keying.specs.declared.Top.{Top}
use Rattle.partner.specs.declared.Entry.{Entry}
use Rattle.partner.specs.Entry.{confirmed}
use Rattle.partner.specs.Table.{Table}
use Rattle.image.specs.Image.{decode}
use Rattle.calls.specs.Calls.{run}
use Rattle.calls.specs.Calls as steps
use Rattle.line.specs.Line.{State, texts, Rising}
use Rattle.line.specs.Line as line
use Rattle.line.proofs.Theorem.{claims}
use Rattle.demands.specs.Face.{Call, ask, leaves, kept, sent}
use Rattle.demands.specs.Terms.{Bytes, entry_stored, entry_told}
use Rattle.demands.specs.Hosts.{Hosts, counted, at_a, at_b, Reach, begin, step_a, step_b, Afresh, Distinct}
use Rattle.demands.specs.Hosts.{Agreed}
use Rattle.demands.proofs.Ways.{way}
use Rattle.demands.proofs.Second.{stored_of, entry_is_told, told_is_stored}
use Rattle.demands.proofs.Ends.{Moves, stays, moves, moved}

-- the tables of two images, and what the hosts know
abbrev state : Hosts → Table → Table → State
state h t u = record { a = t; b = u; from_a = h.from_a; from_b = h.from_b; accepted = h.accepted }

module _ (a b name : Text) (top : Top) where
  -- both images are those of tables that `line` reaches
  record Cards (s₀ : State) (h : Hosts) : Type 0 where
    a_table : Table
    b_table : Table
    a_is : decode h.a ≡ Some a_table
    b_is : decode h.b ≡ Some b_table
    a_bytes : Bytes h.a
    b_bytes : Bytes h.b
    reached : line.Reach a b name top s₀ (state h a_table b_table)

  -- a call that the card of `line` makes, and one that leaves everything as it was
  module _ (s₀ : State) (h : Hosts) (buffer : Text) (c : Call) (k : Cards s₀ h) where
    a_makes : (d : steps.Call) → line.Allowed name top b h.from_b d (run k.a_table d).outcome.answer
        → decode (kept c (leaves h.a buffer c)) ≡ Some (run k.a_table d).table
        → Bytes (kept c (leaves h.a buffer c))
        → sent c (leaves h.a buffer c) ≡ texts (run k.a_table d).outcome.reply → Cards s₀ (at_a h buffer c)
    a_makes d may is octets said = record {
      a_table = (run k.a_table d).table;
      b_table = k.b_table;
      a_is = is;
      b_is = k.b_is;
      a_bytes = octets;
      b_bytes = k.b_bytes;
      reached = subst (line.Reach a b name top s₀) (λ i. record {
        a = (run k.a_table d).table;
        b = k.b_table;
        from_a = ap (λ (l : List Text). l ++ h.from_a) (sym said) i;
        from_b = h.from_b;
        accepted = h.accepted;
      }) (line.step_a k.reached d may);
    }

    a_moves : Moves name top b h.from_b h.a k.a_table c (leaves h.a buffer c) → Cards s₀ (at_a h buffer c)
    a_moves (moves d may is octets said count) = a_makes d may is octets said
    a_moves (stays p q r) =
        subst (Cards s₀) (λ i. record {
          a = sym p i;
          b = h.b;
          from_a = ap (λ (l : List Text). l ++ h.from_a) (sym q) i;
          from_b = h.from_b;
          accepted = h.accepted;
        }) k

    b_makes : (d : steps.Call) → line.Allowed name top a h.from_a d (run k.b_table d).outcome.answer
        → decode (kept c (leaves h.b buffer c)) ≡ Some (run k.b_table d).table
        → Bytes (kept c (leaves h.b buffer c))
        → sent c (leaves h.b buffer c) ≡ texts (run k.b_table d).outcome.reply
        → counted a c (leaves h.b buffer c).answer ≡ line.counted a d (run k.b_table d).outcome.answer
        → Cards s₀ (at_b a h buffer c)
    b_makes d may is octets said count = record {
      a_table = k.a_table;
      b_table = (run k.b_table d).table;
      a_is = k.a_is;
      b_is = is;
      a_bytes = k.a_bytes;
      b_bytes = octets;
      reached = subst (line.Reach a b name top s₀) (λ i. record {
        a = k.a_table;
        b = (run k.b_table d).table;
        from_a = h.from_a;
        from_b = ap (λ (l : List Text). l ++ h.from_b) (sym said) i;
        accepted = ap (λ (l : List ℕ). l ++ h.accepted) (sym count) i;
      }) (line.step_b k.reached d may);
    }

    b_moves : Moves name top a h.from_a h.b k.b_table c (leaves h.b buffer c) → Cards s₀ (at_b a h buffer c)
    b_moves (moves d may is octets said count) = b_makes d may is octets said (count a)
    b_moves (stays p q r) =
        subst (Cards s₀) (λ i. record {
          a = h.a;
          b = sym p i;
          from_a = h.from_a;
          from_b = ap (λ (l : List Text). l ++ h.from_b) (sym q) i;
          accepted = ap (λ (l : List ℕ). l ++ h.accepted) (sym (r a)) i;
        }) k

  -- ---- every run

  first_state : (h : Hosts) → Afresh a b name top h → State
  first_state h f = state h f.card_a.table f.card_b.table

  cards : {h₀ h : Hosts} (f : Afresh a b name top h₀) → Reach a b name top h₀ h → Cards (first_state h₀ f) h
  unfolding first_state
  cards {h₀} f begin = record {
    a_table = f.card_a.table;
    b_table = f.card_b.table;
    a_is = f.card_a.legal;
    b_is = f.card_b.legal;
    a_bytes = f.card_a.bytes;
    b_bytes = f.card_b.bytes;
    reached = line.begin;
  }
  cards {h₀} f (step_a {h = h} r buffer c o may) =
      let k = cards f r in
      a_moves (first_state h₀ f) h buffer c k
      (moved name top b h.from_b h.a buffer k.a_table c (leaves h.a buffer c) k.a_bytes k.a_is o may
      (way h.a buffer c))
  cards {h₀} f (step_b {h = h} r buffer c o may) =
      let k = cards f r in
      b_moves (first_state h₀ f) h buffer c k
      (moved name top a h.from_a h.b buffer k.b_table c (leaves h.b buffer c) k.b_bytes k.b_is o may
      (way h.b buffer c))

  fresh_state : (h : Hosts) (f : Afresh a b name top h) → line.Afresh a b name top (first_state h f)
  unfolding first_state
  fresh_state h f = record {
    card_a = f.card_a.fresh;
    card_b = f.card_b.fresh;
    a_silent = f.a_silent;
    b_silent = f.b_silent;
    none_accepted = f.none_accepted;
  }

  pub agreement : {h₀ h : Hosts} → Afresh a b name top h₀ → Reach a b name top h₀ h → Distinct a b name top h
      → (for_b : Entry) → entry_stored h.a b ≡ Some for_b → for_b.sending.phase ≡ confirmed → Agreed a b name top h for_b.sending
  agreement {h₀} {h} f r distinct for_b there phase =
      let k = cards f r in
      let g = (claims a b name top).agreement (fresh_state h₀ f) k.reached distinct for_b
      (sym (stored_of h.a b k.a_table k.a_is) ∙ there) phase in
      record {
        text = g.text;
        message = g.message;
        sent_by_a = g.sent;
        reading = g.reading;
        carried = g.carried;
        for_a = g.for_a;
        held = stored_of h.b a k.b_table k.b_is ∙ g.held;
        in_step = g.in_step;
        counted_by_b = g.accepted;
      }

  pub as_told : {h₀ h : Hosts} → Afresh a b name top h₀ → Reach a b name top h₀ h → Distinct a b name top h
      → (first second : Text) → 256 ≤ length second → (leaves h.a first (ask b)).answer ≡ 0
      → (entry_told h.a first b).sending.phase ≡ confirmed
      → ((leaves h.b second (ask a)).answer ≡ 0)
      × ((entry_told h.b second a).receiving.incoming ≡ (entry_told h.a first b).sending.outgoing)
      × ((entry_told h.b second a).receiving.expected ≡ (entry_told h.a first b).sending.next)
  as_told {h = h} f r distinct first second roomy z phase =
      let k = cards f r in
      let g = agreement f r distinct (entry_told h.a first b) (told_is_stored h.a first b k.a_bytes z) phase in
      let t = entry_is_told h.b second a k.b_bytes g.for_a roomy g.held in (
        t.0,
        ap (λ (e : Entry). e.receiving.incoming) t.1 ∙ g.in_step.keys,
        ap (λ (e : Entry). e.receiving.expected) t.1 ∙ g.in_step.expected ∙ sym g.in_step.next_send,
      )

  pub rise : {h₀ h : Hosts} → Afresh a b name top h₀ → Reach a b name top h₀ h → Rising h.accepted
  rise {h₀} f r = (claims a b name top).rise (fresh_state h₀ f) (cards f r).reached
