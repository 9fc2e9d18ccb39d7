use Rattle.fm_workers.proofs.counting.count_found.Goals as goal

pub returns-in-Listed : goal.returns-in-Listed
returns-in-Listed c ns h = rw c.in-Listed.is (c.count_numbers.ensures ns h)
