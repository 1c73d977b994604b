-- By the room.
use mathlib.Core.Path.{◌≡◌, sym, ap, ◌∙◌}
use Prim.Native.Nat.{ℕ}
use lib.ListN.{length}
use borrow.Author.Rules.{rules}
use borrow.Author.Tests.{le-leb, lt-leb}
use Rattle.std.specs.Prelude.{Some}
use native.Mathlib.Omega.{arith}
use Rattle.octets.specs.Text.{Text}
use Rattle.octets.proofs.Writing.{wrote_fits}
use Rattle.partner.specs.Record.{entry_size, entry_bytes}
use Rattle.partner.proofs.Storing.{names_size, put_short, put_room}
use Rattle.record.proofs.put_entry.Goals as goal

pub returns-then-rest-lt-SIZE : goal.returns-then-rest-lt-SIZE
returns-then-rest-lt-SIZE c =
    let a = c.args in
    let e = put_short a.e a.rest.now c.if-rest-lt-SIZE.true in
    record {
      rest_after = sym (ap (λ (p : Text × ℕ). p.0) e);
      value = rw (lt-leb entry_size (length a.rest.now) c.if-rest-lt-SIZE.true);
    }

-- the entry's record fills its layout, for each of its names has 16 bytes
pub returns : goal.returns
returns c =
    let w = c.put_whole.ensures in
    let sized : length (entry_bytes c.args.e) ≡ entry_size =
    let fields = c.well_formed.1.0.1.1 in
    let outgoing = fields.1.1.0.1.1.1.1.0.1.1 in
    let incoming = fields.1.1.1.0.1.1.1.0.1.1 in
    names_size c.args.e (search rules) fields.1.0.1.1.0.1.1.0.1.0.1
    outgoing.1.0.1.1.1.0.1.1.0.1.0.1
    outgoing.1.1.0.1.1.1.0.1.1.0.1.0.1
    incoming.1.0.1.1.1.0.1.1.0.1.0.1
    incoming.1.1.0.1.1.1.0.1.1.0.1.0.1 in
    let e = put_room c.args.e sized c.if-rest-lt-SIZE.false w in
    record {
      rest_after = sym (ap (λ (p : Text × ℕ). p.0) e);
      value = rw (le-leb entry_size (length c.args.rest.now) c.if-rest-lt-SIZE.false) (ap Some ((wrote_fits w (omega arith)).1 ∙ sized));
    }
