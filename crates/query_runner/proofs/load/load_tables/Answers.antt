use Rattle.std.proofs.Common.{◌<◌, length, Some, ◌∙◌, sym, ap}
use native.Mathlib.Omega.{arith}
use Rattle.command_line.specs.Words.{asked, asked_file, file_of}
use Rattle.query_runner.proofs.TableLemmas.{columns_more, few_more, fits_more, images_at, item_there, loop_step}
use Rattle.query_runner.proofs.load.load_tables.Goals as goal

pub loop-place-preserved : goal.loop-place-preserved
loop-place-preserved g c =
    let same = c.loop-place.invariant.1 in
    let later = c.load_table.ensures.later in
    let before = c.loop-place.invariant.2 in
    let least = c.min-place-end.ensures in
    let below = c.loop-place-test.true in
    let within : c.loop-place.place < length c.args.docs.now = omega (arith, least, below) in
    let here = item_there c.args.docs.now c.loop-place.place c.index-docs-place.result within ∙ ap Some (sym c.index-docs-place.is) in (
      loop_step (g.F.Files.holds c.args.files.now) (g.F.Files.holds c.loop-place.files) (asked c.args.job.now) c.args.docs.now
          c.loop-place.tables.items c.push.new.self.items c.in_ok-table.table c.loop-place.place c.index-docs-place.result
          c.loop-place.invariant.0 same here c.in_ok-table.ensures.answer c.in_ok-push.ensures.items,
      c.load_table.ensures.same ∙ same,
      omega (arith, later, before),
      columns_more c.args.docs.now c.loop-place.tables.items c.push.new.self.items c.in_ok-table.table c.loop-place.place c.index-docs-place.result
          c.loop-place.invariant.3 here c.in_ok-table.ensures.columns c.in_ok-push.ensures.items,
      fits_more c.loop-place.tables.items c.push.new.self.items c.in_ok-table.table c.loop-place.invariant.4 c.in_ok-table.ensures.fits c.in_ok-push.ensures.items,
      few_more c.loop-place.tables.items c.push.new.self.items c.in_ok-table.table c.loop-place.invariant.5 c.in_ok-table.ensures.few c.in_ok-push.ensures.items,
    )

pub load_table-requires-after_bounds : goal.load_table-requires-after_bounds
load_table-requires-after_bounds g c κs within =
    let least = c.min-place-end.ensures in
    let below = c.loop-place-test.true in
    let files = (asked c.args.job.now).files in
    let found = images_at (λ file. Some (asked_file file)) (λ doc. file_of doc.name files) c.args.found.now c.args.docs.now c.loop-place.place _ c.index-docs-place.result
    c.requires.files (omega (arith, least, below)) (omega (arith, least, below)) in
    ap (λ doc. file_of doc.name files) c.index-docs-place.is ∙ sym found
