-- `bench_lines::Bench::ended` meets its contract. Assumes nothing.
use Rattle.answer_lines.specs.Printed.{answer_of}
use Rattle.bench_lines.proofs.Bytes.{line-ended}
use Rattle.bench_lines.proofs.Bench.ended.Goals as goal

pub returns : goal.returns
returns c =
    line-ended _ _ _ _ c.asked.ensures (answer_of c.step-answer.result.answer) _ _ _ _ _ c.new.ensures c.step-answer.ensures
    c.put_answer-used.ensures
