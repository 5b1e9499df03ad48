use Rattle.std.proofs.Common.{arith, length, ap, sym, subst}
use Rattle.std.specs.Io.KnownBytes.{Consumes}
use Rattle.std.proofs.KnownBytes.{Consumes-nil}
use Rattle.sts_output.proofs.Takes.{whole, first, piece_fits, Consumes-piece, LosesUpTo-piece}
use Rattle.sts_output.proofs.taking.bytes_of.Goals as goal

pub loop-taken-init : goal.loop-taken-init
loop-taken-init g c = record {
  bound = omega (arith, ap length c.new-taken.ensures.items);
  read = subst (Consumes _ _) (sym c.new-taken.ensures.items) (Consumes-nil _);
  long = c.in_ok-piece.ensures;
}

pub returns-in_err-n-clause-lost : goal.returns-in_err-n-clause-lost
returns-in_err-n-clause-lost g c =
    LosesUpTo-piece c.from_residual-in_err-n.result c.args.most c.min-room.result _ _ _ _ (omega arith) c.loop-taken.invariant.read c.in_err-n.ensures.lost

pub returns-then-n-eq0-clause-known : goal.returns-then-n-eq0-clause-known
returns-then-n-eq0-clause-known g c =
    let read = Consumes-piece _ _ _ _ _ _ c.loop-taken.invariant.read c.in_ok-n.ensures.items c.in_ok-n.ensures.read in
    whole c.args.most _ _ _ read (c.in_ok-n.ensures.end c.if-n-eq0.true)
    (piece_fits _ _ c.in_ok-n.n c.min-room.result _ _ c.in_ok-n.ensures.items c.in_ok-n.ensures.bound (omega arith))

pub returns-then-n-eq0-clause-read : goal.returns-then-n-eq0-clause-read
returns-then-n-eq0-clause-read g c = Consumes-piece _ _ _ _ _ _ c.loop-taken.invariant.read c.in_ok-n.ensures.items c.in_ok-n.ensures.read

pub loop-taken-preserved : goal.loop-taken-preserved
loop-taken-preserved g c = record {
  bound = piece_fits _ _ c.in_ok-n.n c.min-room.result _ _ c.in_ok-n.ensures.items c.in_ok-n.ensures.bound (omega arith);
  read = Consumes-piece _ _ _ _ _ _ c.loop-taken.invariant.read c.in_ok-n.ensures.items c.in_ok-n.ensures.read;
  long = c.loop-taken.invariant.long;
}

pub returns-clause-known : goal.returns-clause-known
returns-clause-known g c = first c.args.most _ _ _ c.loop-taken.invariant.read (omega arith)
