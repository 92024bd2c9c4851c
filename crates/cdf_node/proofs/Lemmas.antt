-- What proofs of other crates may cite besides its laws: facts on orders, and how what is read goes
-- on by a turn of a loop.
pub use Rattle.cdf_node.proofs.Found.{below_none}
pub use Rattle.cdf_node.proofs.Loops.{array_begun, array_flat, array_next, array_none, array_over}
pub use Rattle.cdf_node.proofs.Loops.{array_shorter, next_value_nothing, object_begun, object_flat}
pub use Rattle.cdf_node.proofs.Loops.{object_next, object_no_key, object_none, object_over}
pub use Rattle.cdf_node.proofs.Views.{view-Array, view-Object}
pub use Rattle.cdf_node.proofs.Sorting.{rises_sorted, Below-trans, Below-put}
pub use Rattle.cdf_node.proofs.Whole.{members_float}
