-- Pairs of places among so many recordings, with a verdict that names rules among so many. This
-- project's own.
use Rattle.std.specs.Prelude.{ℕ, ◌<◌}
use Rattle.rulebook_order.specs.declared.verdict.Verdict.{Verdict}
use Rattle.rulebook_commands.specs.Compare.{AreNamed}

-- both recordings are there, and so are the rules that the verdict names
pub record IsPlaced (runs rules : ℕ) (p : ℕ × ℕ × Verdict) : Type 0 where
  pub first : p.0 < runs
  pub second : p.1 < runs
  pub named : AreNamed rules p.2
