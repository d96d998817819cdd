use lib.Seq.{drop-drop}
use Rattle.map_file.proofs.record.Record.pose.Goals as goal

pub returns : goal.returns
returns c =
    simp (c.float_at.ensures, c.float_at-2.ensures, c.float_at-3.ensures, c.float_at-4.ensures, c.float_at-5.ensures, c.float_at-6.ensures, c.float_at-7.ensures, drop-drop)
