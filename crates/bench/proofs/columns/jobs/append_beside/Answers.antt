use Rattle.std.proofs.Common.{length, refl}
use Rattle.std.proofs.lemmas.Option.{slice_get_read}
use Rattle.bench.proofs.columns.jobs.append_beside.Goals as goal

pub map_vec-requires-after_bounds : goal.map_vec-requires-after_bounds
map_vec-requires-after_bounds g c κs within = λ i job few is. (
  c.requires.jobs i job (slice_get_read c.args.jobs.items (length c.args.jobs.items) i job refl few is),
  c.requires.appends,
)
