-- A completed read shows one table: that of its home's history at its effective time.
pub mod ShownOnRow
pub mod ReadTables
pub mod ReadRests
