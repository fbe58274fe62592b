-- What is gathered from the expressions that stand in a statement, in their order.
use Rattle.std.specs.Prelude.{List, [], ◌++◌}
use Rattle.std.specs.List.{flat_map}
use Rattle.prog_tree.specs.Syntax.{ExprTree, ComparisonTree, TestTree, KeyTree, One, Two, RangeTree, OneRange, TwoRange, StatementTree, Bind, Get, Need, Count, Sum, Lacks, Put, Insert, Delete, Keep, Reply, Abort}

abbrev pub from_comparison : {A : Type 0} → (ExprTree → List A) → ComparisonTree → List A
from_comparison gives c = gives c.left ++ gives c.right

abbrev pub from_clause : {A : Type 0} → (ExprTree → List A) → List ComparisonTree → List A
from_clause gives clause = flat_map (from_comparison gives) clause

abbrev pub from_test : {A : Type 0} → (ExprTree → List A) → TestTree → List A
from_test gives test = flat_map (from_clause gives) test

abbrev pub from_key : {A : Type 0} → (ExprTree → List A) → KeyTree → List A
from_key gives (One first) = gives first
from_key gives (Two first second) = gives first ++ gives second

abbrev pub from_range : {A : Type 0} → (ExprTree → List A) → RangeTree → List A
from_range gives (OneRange low high) = gives low ++ gives high
from_range gives (TwoRange first low high) = gives first ++ gives low ++ gives high

abbrev pub from_statement : {A : Type 0} → (ExprTree → List A) → StatementTree → List A
from_statement gives (Bind name value) = gives value
from_statement gives (Get name table key otherwise) = from_key gives key ++ gives otherwise
from_statement gives (Need name table key) = from_key gives key
from_statement gives (Count name table range) = from_range gives range
from_statement gives (Sum name table range) = from_range gives range
from_statement gives (Lacks table key) = from_key gives key
from_statement gives (Put table key value) = from_key gives key ++ gives value
from_statement gives (Insert table key value) = from_key gives key ++ gives value
from_statement gives (Delete table key) = from_key gives key
from_statement gives (Keep table key) = from_key gives key
from_statement gives (Reply value) = gives value
from_statement gives Abort = []
