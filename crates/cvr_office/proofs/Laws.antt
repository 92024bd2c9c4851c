-- What proofs of other crates may cite: each is a clause of one of this crate's functions, which
-- has the statement.
pub use Rattle.cvr_office.proofs.AnsweredAlike.{answer_alike}
pub use Rattle.cvr_office.proofs.ColumnTotals.{ballots_add_up, columns_add_up}
pub use Rattle.cvr_office.proofs.Included.{device_known, includes, known_device}
pub use Rattle.cvr_office.proofs.Keeping.{import_keeps, join_keeps}
pub use Rattle.cvr_office.proofs.Lasting.{held_lasts, import_lasts}
pub use Rattle.cvr_office.proofs.NameOrder.{conflict_exact, conflict_total}
pub use Rattle.cvr_office.proofs.NewOffices.{same_content, same_definition}
pub use Rattle.cvr_office.proofs.Runs.{name_total}
pub use Rattle.cvr_office.proofs.OwnFrame.{entry_source, own_agrees}
pub use Rattle.cvr_office.proofs.Reached.{content-none}
pub use Rattle.cvr_office.proofs.RecordMembers.{name_exact}
pub use Rattle.cvr_office.proofs.RecordNames.{header_under, id_under, snapshot_under}
pub use Rattle.cvr_office.proofs.RowsOfKeys.{ballots_law, rows_law}
pub use Rattle.cvr_office.proofs.SameFiles.{same_files}
pub use Rattle.cvr_office.proofs.SameFrames.{agrees_alike}
pub use Rattle.cvr_office.proofs.Starting.{start_keeps}
