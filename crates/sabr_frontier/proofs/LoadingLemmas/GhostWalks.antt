-- The names that the walks of ghost data cite.
pub use Rattle.sabr_model.proofs.ListLemmas.CountWalks.{ℕ, List, [], ◌∷◌, refl, proved, ftrue, flft, named, vunit, tables, ‵, raw, ◌⊛◌, ◌$◌, ◌∵◌, !, qed, done, move, keep, split, join, fsplit, fsplit3, fjoin, feq_i, suffices, frame, group, enter, of_opd, unit_lit, no_more, returns, alloc_all, pass_all, free_all, look_at, sets, MutRef, mut_vals, mut_Tells, plain, nothing, owned, opens, closes, on_entry, Stays, walk_of, says, stay_ref, Goes-ref, ends_at, agg, ShrSlice, shr_slice_vals, shr_slice_Tells, yes, stay_none_slice, Goes-none_slice}
pub use denote.Builtin.{u32}
