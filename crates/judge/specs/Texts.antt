-- What is printed of a file.
use Rattle.std.specs.Prelude.{ℕ, List, [], ◌∷◌, ◌++◌, Ok, Err, codes, decimal, Result}
use Rattle.records.specs.Classes.{class_name}
use Rattle.refusals.specs.declared.Refusal.{Refusal}
use Rattle.refusals.specs.Texts.{refusal_text}
use Rattle.judge.specs.declared.contents.Contents.{Contents}
use Rattle.judge.specs.declared.contents.StepCounts.{StepCounts}

-- the end of a line
abbrev pub line_feed : List ℕ
line_feed = 10 ∷ []

-- the steps by their sorts, as `3 ticks, 0 enters, ..`
abbrev pub counts_text : StepCounts → List ℕ
counts_text n =
    (decimal n.ticks ++ (codes " ticks, "
    ++ (decimal n.enters ++ (codes " enters, "
    ++ (decimal n.leaves ++ (codes " leaves, "
    ++ (decimal n.crashes ++ (codes " crashes, "
    ++ (decimal n.reads ++ (codes " reads, "
    ++ (decimal n.writes ++ codes " writes, ")))))))))))
    ++ (decimal n.delivers ++ codes " delivers")

-- four lines, the last without its end
abbrev pub contents_text : Contents → List ℕ
contents_text c =
    codes "records " ++ (class_name c.class ++ (line_feed
    ++ (codes "table " ++ (decimal c.table ++ (line_feed
    ++ (codes "stations " ++ (decimal c.present ++ (line_feed
    ++ (codes "steps " ++ counts_text c.counts)))))))))

-- what is printed of a judgement: every line ends with a line feed
abbrev pub report_text : Result Contents Refusal → List ℕ
report_text (Ok c) = contents_text c ++ line_feed
report_text (Err r) = refusal_text r ++ line_feed
