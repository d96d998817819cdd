-- A load that is answered with done is the additions of the file's records, one by one.
use Rattle.time.proofs.Replies.{refusal_answer}
use Rattle.map_loading.specs.Loading.{additions}
use Rattle.map_loading.specs.Laws.{AddedOneByOne, DoneIsAdditions}
use Rattle.map_loading.proofs.AddAll.{done_added}
use Rattle.map_loading.proofs.LoadCases.{Load, none_read, read, load_cases}

pub done_is_additions : DoneIsAdditions
done_is_additions s bytes e = by (load_cases s bytes)
  where
    by : Load s bytes → AddedOneByOne s bytes
    by (none_read k f q l) = absurd (refusal_answer (rw l at e))
    by (read rs p q l) =
        let all = done_added s 0 s (additions rs) (rw l at e) in
        record { read = rs; form = p.form; each = all.each; left = rw l all.left }
