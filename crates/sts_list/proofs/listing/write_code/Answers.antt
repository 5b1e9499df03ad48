use Rattle.std.proofs.Common.{◌≡◌, ◌∙◌, ◌<◌, length, string_bytes, false}
use Rattle.std.specs.Prelude.{pos}
use Rattle.std.proofs.lemmas.List.{get_or_read}
use Rattle.sts_code.specs.declared.instr.Instr.{Instr}
use Rattle.sts_code.specs.declared.instr.Instr.TheVariants.{Push}
use Rattle.sts_list.specs.Listing.{is_target}
use Rattle.sts_list.specs.RoundTrip.{FitsInstr}
use Rattle.sts_list.proofs.FitLemmas.{more_lines, last_line, all_take, all_taken}
use Rattle.sts_list.proofs.listing.write_code.Goals as goal

abbrev first : Instr
first = Push (pos 0)

pub loop-pc-preserved : goal.loop-pc-preserved
loop-pc-preserved c =
    let l = c.loop-pc in
    let marks = c.in_ok-marks.marks.items in
    let small : l.pc < length c.args.code.now = c.loop-pc-test.true in
    let within : l.pc < length marks = rw c.in_ok-marks.ensures.length small in
    let is_marked : c.index.result.now ≡ is_target c.args.code.now l.pc =
    get_or_read marks l.pc c.index.result.now within c.index.ensures false ∙ c.in_ok-marks.ensures.named l.pc small in
    record {
      lines = more_lines c.args.program.now c.args.code.now (string_bytes l.out) (string_bytes c.write_label.new.out) _ _ l.pc
          c.index.result.now first small is_marked c.in_ok-write_label.ensures c.in_ok-write_line.ensures.line l.invariant.lines;
      fits = all_take FitsInstr c.args.code.now l.pc first small l.invariant.fits c.in_ok-write_line.ensures.fits;
    }

pub returns-clause-lines : goal.returns-clause-lines
returns-clause-lines c = last_line c.args.program.now c.args.code.now _ _ c.loop-pc.pc c.loop-pc-test.false c.loop-pc.invariant.lines

pub returns-clause-fits : goal.returns-clause-fits
returns-clause-fits c = all_taken FitsInstr c.args.code.now c.loop-pc.pc c.loop-pc-test.false c.loop-pc.invariant.fits
