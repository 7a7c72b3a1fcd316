-- The limits on what is read of a certificate, and on the number of workers.
pub use Rattle.round_pool.specs.Workers.{worker_limit}
use Rattle.std.specs.Prelude.{ℕ, suc, ◌≤◌}

-- the greatest number of bytes of a certificate's text
abbrev pub certificate_byte_limit : ℕ
certificate_byte_limit = 67108864

-- how many bytes of it are read at most
abbrev pub certificate_read_limit : ℕ
certificate_read_limit = suc certificate_byte_limit

-- so many workers judge a trace
abbrev pub HasWorkerRange : ℕ → Type 0
HasWorkerRange workers = (1 ≤ workers) × (workers ≤ worker_limit)
