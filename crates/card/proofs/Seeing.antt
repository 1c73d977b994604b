-- What is seen of the image of a table is what a look-up of the table has to see.
use Rattle.std.specs.Prelude.{Option, None, Some, is_some}
use Rattle.std.specs.List.{find as first}
use mathlib.Core.Path.{◌≡◌, refl, sym, ap, ◌∙◌, subst}
use mathlib.Core.Bool.{Bool, true, false, cond, not, ◌&&◌, ◌||◌, true≢false}
use mathlib.Core.List.{List, [], ◌∷◌}
use Prim.Native.Nat.{ℕ}
use native.Mathlib.Omega.{arith}
use lib.Dec.{ltb}
use lib.ListN.{length, drop, get_or, set}
use lib.Seq.{get_or-set_same, set_out}
use borrow.Author.Tests.{lt-ltb, le-ltb}
use Rattle.octets.specs.Text.{Text, same, is_name}
use Rattle.octets.specs.Part.{bare, found}
use Rattle.csm.specs.Message.{Reading, read}
use Rattle.csm.proofs.TextLaws.{none_some}
use Rattle.partner.specs.declared.Entry.{Entry}
use Rattle.partner.specs.declared.Name.{Name}
use Rattle.partner.specs.Entry.{name_of, empty}
use Rattle.partner.specs.Legal as partner
use Rattle.partner.proofs.Claims as entries
use Rattle.partner.specs.Table.{Table, legal, is_empty, find, put}
use Rattle.image.specs.Image.{decode, slots_in}
use Rattle.image.specs.Places.{below, slot_of, free_slot}
use Rattle.image.proofs.Entries.{empty_is}
use Rattle.image.proofs.Images.{rules}
use Rattle.image.proofs.Numbered.{slots_are, slot_found, slot_missed, free_found, free_missed}
use Rattle.calls.proofs.Tables.{legal_parts, own_name}
use Rattle.sight.specs.declared.aims.Act.{Act}
use Rattle.sight.specs.declared.aims.Act.TheVariants.{Receive, BuildKsm, BuildRsi, GiveUp, Remove, Ask, Load}
use Rattle.sight.specs.declared.aims.Aim.{Aim}
use Rattle.sight.specs.declared.Sight.{Sight}
use Rattle.sight.specs.Aim.{identity, at_partner, refused, of_reading, aim_of}
use Rattle.sight.specs.Sight.{is_of, is_theirs, is_sought, put_in as put_seen}
use Rattle.sight.specs.Table.{table}
use Rattle.sight.proofs.Rows.{putting, putting_first}
use Rattle.sight.proofs.Finding.{first_same, first_none, first_find, putting_same, putting_put, none_free, one_free}
use Rattle.sight.proofs.Sees.{any_theirs, Sees}
use Rattle.card.specs.Ways.{slot_named, theirs, sought, blind, sighted, seen, place_in, place}
use Rattle.card.proofs.Tables.{lawful_table}

-- ---- the partner whom a call is about has an identity that is filled

abbrev Named : Option Name → Type 0
Named o = (n : Name) → o ≡ Some n → partner.is_filled n.bytes ≡ true

pub identity_named : (id : Text) → Named (identity id)
identity_named id n h = go (is_name id) refl h
  where
    go : (b : Bool) → is_name id ≡ b → cond b (Some (name_of id)) None ≡ Some n → partner.is_filled n.bytes ≡ true
    go true k q = let p : name_of id ≡ n = cc in subst (λ (m : Name). partner.is_filled m.bytes ≡ true) p ((entries.claims).filled_is_filled id k)
    go false k q = cc

nobody_named : Named None
nobody_named n h = cc

by_text : (own : Text) (o : Option Reading) → Named (of_reading own o).partner
unfolding of_reading
by_text own None = nobody_named
by_text own (Some r) = go (not (same r.rcv own))
  where
    go : (b : Bool) → Named (cond b (refused own 2) (at_partner own r.org)).partner
    go true = nobody_named
    go false = identity_named r.org

pub aim_named : (a : Act) (own who text : Text) → Named (aim_of a own who text).partner
unfolding aim_of
aim_named Receive own who text = by_text own (read text)
aim_named BuildKsm own who text = identity_named who
aim_named BuildRsi own who text = identity_named who
aim_named GiveUp own who text = identity_named who
aim_named Remove own who text = identity_named who
aim_named Ask own who text = identity_named who
aim_named (Load top) own who text = identity_named who

-- ---- the table of an image

module _ (image : Text) (t : Table) (d : decode image ≡ Some t) (a : Aim) where
  abbrev slots : List Entry
  slots = t.slots

  slots_64 : length slots ≡ 64
  slots_64 = (rules t (lawful_table image t d)).slots_64

  pub seen_is : seen a image ≡ sighted a image
  unfolding seen
  seen_is = ap (λ (o : Option Table). cond (not (found o)) blind (sighted a image)) d

  legal_is : true ≡ is_name (bare t.own) && legal (table (bare t.own) slots)
  legal_is =
      let l = lawful_table image t d in
      rw (own_name t l, (entries.claims).filled_after_bare t.own (legal_parts t l).own) (sym l)

  -- the entry in a slot
  entry_in : (k : ℕ) → get_or (slots_in 64 (drop 17 image)) k empty ≡ get_or slots k empty
  entry_in k = ap (λ (l : List Entry). get_or l k empty) (sym (slots_are image t d))

  -- a slot that was found, and none
  abbrev Hit : ℕ → Entry → (Entry → List Entry) → Type 0
  Hit k e after = (ltb k 64 ≡ true) × ((get_or slots k empty ≡ e) × ((x : Entry) → set slots k x ≡ after x))

  abbrev Miss : ℕ → Type 0
  Miss k = k ≡ 64

  missed_so : (k : ℕ) → Miss k → (ltb k 64 ≡ false) × ((x : Entry) → set slots k x ≡ slots)
  missed_so k m =
      let n = slots_64 in
      (le-ltb k 64 (omega arith), λ x. set_out slots k x (omega arith))

  -- ---- the partner's slot

  module _ (n : Name) (named : partner.is_filled n.bytes ≡ true) where
    partner_hit : (e : Entry) → find n.bytes slots ≡ Some e → Hit (slot_of n.bytes image) e (λ x. put n.bytes x slots)
    partner_hit e h =
        let k = slot_found image t d n.bytes e named h in
        (lt-ltb _ 64 k.0, (k.1, k.3))

    partner_miss : find n.bytes slots ≡ None → Miss (slot_of n.bytes image)
    partner_miss h = slot_missed image t d n.bytes named h

  -- ---- the lowest free slot

  free_hit : (e : Entry) → first is_empty slots ≡ Some e → Hit (free_slot image) e (λ x. putting is_empty x slots)
  free_hit e h =
      let k : (x : Entry) → _ = λ (x : Entry). free_found image t d x (putting is_empty x slots) (one_free x slots e h) in
      let w = (k e).0 in
      let n = slots_64 in
      let p : get_or (set slots (free_slot image) e) (free_slot image) empty ≡ e =
      get_or-set_same slots (free_slot image) e empty (omega arith) in
      let q : set slots (free_slot image) e ≡ slots = (k e).2 ∙ putting_first is_empty slots e h in
      (lt-ltb _ 64 w, (ap (λ (l : List Entry). get_or l (free_slot image) empty) (sym q) ∙ p, λ x. (k x).2))

  free_miss : first is_empty slots ≡ None → Miss (free_slot image)
  free_miss h = free_missed image t d empty (none_free empty slots h)

  -- ---- what is sought

  abbrev Soughts : ℕ → Type 0
  Soughts k = (e : Entry) → first (is_sought a) slots ≡ Some e → Hit k e (λ x. putting (is_sought a) x slots)

  -- by a test that says the same as the aim's
  by_test : (test : Entry → Bool) → ((e : Entry) → is_sought a e ≡ test e) → (k : ℕ) → sought a image ≡ k
      → ((e : Entry) → first test slots ≡ Some e → Hit k e (λ x. putting test x slots)) → Soughts (sought a image)
  by_test test same_test k s hit e h =
      let r = hit e (sym (first_same _ _ slots same_test) ∙ h) in
      subst (λ (n : ℕ). Hit n e (λ x. putting (is_sought a) x slots)) (sym s)
      (r.0, (r.1.0, λ x. r.1.1 x ∙ sym (putting_same _ _ x slots same_test)))

  vacant_test : a.vacant ≡ true → (e : Entry) → is_sought a e ≡ is_empty e
  unfolding is_sought
  vacant_test v e = ap (λ (b : Bool). cond b (is_empty e) (is_theirs a e)) v

  theirs_test : (n : Name) → a.vacant ≡ false → a.partner ≡ Some n → (e : Entry) → is_sought a e ≡ same e.identity.bytes n.bytes
  unfolding is_sought is_theirs
  theirs_test n v h e = rw (v, h)

  nobody_test : a.vacant ≡ false → a.partner ≡ None → (e : Entry) → is_sought a e ≡ false
  unfolding is_sought is_theirs
  nobody_test v h e = rw (v, h)

  free_sought : a.vacant ≡ true → sought a image ≡ free_slot image
  unfolding sought
  free_sought v = ap (λ (b : Bool). cond b (free_slot image) (theirs a image)) v

  theirs_sought : a.vacant ≡ false → sought a image ≡ theirs a image
  unfolding sought
  theirs_sought v = ap (λ (b : Bool). cond b (free_slot image) (theirs a image)) v

  their_slot : (o : Option Name) → a.partner ≡ o → theirs a image ≡ slot_named o image
  unfolding theirs
  their_slot o h = ap (λ (x : Option Name). slot_named x image) h

  module _ (named : Named a.partner) where
    found_so : (v : Bool) (o : Option Name) → a.vacant ≡ v → a.partner ≡ o → Soughts (sought a image)
    found_so true o v h = by_test is_empty (vacant_test v) (free_slot image) (free_sought v) free_hit
    found_so false (Some n) v h =
        by_test (λ e. same e.identity.bytes n.bytes) (theirs_test n v h)
        (slot_of n.bytes image) (theirs_sought v ∙ their_slot (Some n) h) λ e f.
        let r = partner_hit n (named n h) e (sym (first_find n.bytes slots) ∙ f) in
        (r.0, (r.1.0, λ x. r.1.1 x ∙ sym (putting_put n.bytes x slots)))
    found_so false None v h = λ e f.
        absurd (none_some e (sym (first_none slots) ∙ sym (first_same _ _ slots (nobody_test v h)) ∙ f))

    missed_at : (v : Bool) (o : Option Name) → a.vacant ≡ v → a.partner ≡ o → first (is_sought a) slots ≡ None → Miss (sought a image)
    missed_at true o v h f = free_sought v ∙ free_miss (sym (first_same _ _ slots (vacant_test v)) ∙ f)
    missed_at false (Some n) v h f =
        theirs_sought v ∙ their_slot (Some n) h
        ∙ partner_miss n (named n h)
        (sym (first_find n.bytes slots) ∙ sym (first_same _ _ slots (theirs_test n v h)) ∙ f)
    missed_at false None v h f = theirs_sought v ∙ their_slot None h

    -- whether the partner has a slot
    any_is : (n : Name) → a.partner ≡ Some n → (l : List Entry) → any_theirs a l ≡ found (find n.bytes l)
    unfolding is_theirs
    any_is n h [] = refl
    any_is n h (e ∷ l) =
        ap (λ (o : Option Name). is_of o e || any_theirs a l) h
        ∙ ap (λ (b : Bool). same e.identity.bytes n.bytes || b) (any_is n h l)
        ∙ go (same e.identity.bytes n.bytes)
      where
        go : (b : Bool) → b || found (find n.bytes l) ≡ found (cond b (Some e) (find n.bytes l))
        go true = refl
        go false = refl

    any_not : a.partner ≡ None → (l : List Entry) → any_theirs a l ≡ false
    unfolding is_theirs
    any_not h [] = refl
    any_not h (e ∷ l) = ap (λ (o : Option Name). is_of o e || any_theirs a l) h ∙ any_not h l

    taken_so : (o : Option Name) → a.partner ≡ o → ltb (theirs a image) 64 ≡ any_theirs a slots
    taken_so None h = ap (λ (k : ℕ). ltb k 64) (their_slot None h) ∙ sym (any_not h slots)
    taken_so (Some n) h =
        ap (λ (k : ℕ). ltb k 64) (their_slot (Some n) h) ∙ go (find n.bytes slots) refl ∙ sym (any_is n h slots)
      where
        go : (o : Option Entry) → find n.bytes slots ≡ o
            → ltb (slot_of n.bytes image) 64 ≡ found (find n.bytes slots)
        go None q = ap (λ (k : ℕ). ltb k 64) (partner_miss n (named n h) q) ∙ ap found (sym q)
        go (Some e) q = (partner_hit n (named n h) e q).0 ∙ ap found (sym q)

    -- where it is seen
    slot_at : ltb (sought a image) 64 ≡ true → below 64 (sought a image) ≡ Some (sought a image)
    slot_at h = rw h

    slot_none : ltb (sought a image) 64 ≡ false → below 64 (sought a image) ≡ None
    slot_none h = rw h

    found_seen : (e : Entry) → first (is_sought a) slots ≡ Some e
        → (is_some (below 64 (sought a image)) ≡ true) × (get_or (slots_in 64 (drop 17 image)) (sought a image) empty ≡ e)
        × ((x : Entry) → put_seen (below 64 (sought a image)) x slots ≡ putting (is_sought a) x slots)
    found_seen e h =
        let r = found_so a.vacant a.partner refl refl e h in
        let k = slot_at r.0 in
        (ap is_some k, entry_in (sought a image) ∙ r.1.0, λ x. ap (λ (o : Option ℕ). put_seen o x slots) k ∙ r.1.1 x)

    missed_seen : first (is_sought a) slots ≡ None → below 64 (sought a image) ≡ None
    missed_seen h = slot_none (missed_so (sought a image) (missed_at a.vacant a.partner refl refl h)).0

    pub sees : Sees (bare t.own) slots a (seen a image)
    sees = subst (Sees (bare t.own) slots a) (sym seen_is) (record {
      legal = legal_is;
      found = λ l. found_seen;
      missed = λ l. missed_seen;
      taken = λ l v. taken_so a.partner refl;
      kept = λ l. absurd (true≢false l);
    })

    -- its number
    pub place_is : place (seen a image) ≡ sought a image
    place_is = ap place seen_is ∙ go (first (is_sought a) slots) refl
      where
        go : (o : Option Entry) → first (is_sought a) slots ≡ o → place_in (below 64 (sought a image)) ≡ sought a image
        go None h = ap place_in (missed_seen h) ∙ sym (missed_at a.vacant a.partner refl refl h)
        go (Some e) h = ap place_in (slot_at (found_so a.vacant a.partner refl refl e h).0)

    -- its entry
    pub seen_entry : (seen a image).entry ≡ get_or slots (place (seen a image)) empty
    seen_entry =
        ap (λ (x : Sight). x.entry) seen_is ∙ entry_in (sought a image) ∙ ap (λ (k : ℕ). get_or slots k empty) (sym place_is)

    -- put there, at its number
    pub put_at : (x : Entry) → put_seen (seen a image).slot x slots ≡ set slots (place (seen a image)) x
    put_at x = go (seen a image).slot
      where
        go : (o : Option ℕ) → put_seen o x slots ≡ set slots (place_in o) x
        go None = let n = slots_64 in sym (set_out slots 64 x (omega arith))
        go (Some k) = refl

    -- ---- what stands in a slot that was found

    -- a partner's, where no free one is sought
    pub slot_full : a.vacant ≡ false → ltb (sought a image) 64 ≡ true → is_empty (get_or slots (sought a image) empty) ≡ false
    slot_full v h = by_theirs a.partner refl
      where
        in_slot : (n : Name) → a.partner ≡ Some n → (o : Option Entry) → find n.bytes slots ≡ o
            → is_empty (get_or slots (sought a image) empty) ≡ false
        in_slot n p None q =
            absurd (true≢false (sym h ∙ ap (λ (k : ℕ). ltb k 64) (theirs_sought v ∙ their_slot (Some n) p ∙ partner_miss n (named n p) q)))
        in_slot n p (Some e) q =
            let k = slot_found image t d n.bytes e (named n p) q in
            ap (λ (i : ℕ). is_empty (get_or slots i empty)) (theirs_sought v ∙ their_slot (Some n) p) ∙ ap is_empty k.1 ∙ k.2

        by_theirs : (o : Option Name) → a.partner ≡ o → is_empty (get_or slots (sought a image) empty) ≡ false
        by_theirs (Some n) p = in_slot n p (find n.bytes slots) refl
        by_theirs None p = absurd (true≢false (sym h ∙ ap (λ (k : ℕ). ltb k 64) (theirs_sought v ∙ their_slot None p)))

    -- an empty one, where a free one is
    pub slot_empty : a.vacant ≡ true → ltb (sought a image) 64 ≡ true → is_empty (get_or slots (sought a image) empty) ≡ true
    slot_empty v h = by_first (first is_empty slots) refl
      where
        by_first : (o : Option Entry) → first is_empty slots ≡ o → is_empty (get_or slots (sought a image) empty) ≡ true
        by_first None q = absurd (true≢false (sym h ∙ ap (λ (k : ℕ). ltb k 64) (free_sought v ∙ free_miss q)))
        by_first (Some e) q =
            let k = free_found image t d e (putting is_empty e slots) (one_free e slots e q) in
            ap (λ (i : ℕ). is_empty (get_or slots i empty)) (free_sought v) ∙ ap is_empty k.1 ∙ empty_is
