-- The plan of the demo: for each region how many orders its customers gave, and the sum of their amounts.
use Rattle.std.specs.Prelude.{ℕ, List, ◌++◌, codes}

-- one JSON document without line feeds
unfoldable pub plan_text : List ℕ
plan_text =
    codes "{\"version\":1,\"output\":[\"region\",\"orders\",\"amount\"],\"tables\":["
    ++ codes "{\"name\":\"orders\",\"columns\":[{\"name\":\"customer\",\"type\":\"bigint\"},"
    ++ codes "{\"name\":\"amount\",\"type\":\"decimal(12,2)\"}]},"
    ++ codes "{\"name\":\"customers\",\"columns\":[{\"name\":\"id\",\"type\":\"bigint\"},"
    ++ codes "{\"name\":\"region\",\"type\":\"varchar\"}]}],"
    ++ codes "\"fragments\":["
    ++ codes "{\"id\":0,\"placement\":\"SINGLE\",\"root\":{\"id\":1,\"op\":\"sort\",\"keys\":[{\"column\":0,"
    ++ codes "\"order\":\"ASC\"}],\"input\":{\"id\":2,\"op\":\"aggregate\",\"step\":\"FINAL\","
    ++ codes "\"input\":{\"id\":3,\"op\":\"remote\",\"fragment\":1}}}},"
    ++ codes "{\"id\":1,\"placement\":\"HASH\",\"output\":{\"kind\":\"SINGLE\"},\"root\":{\"id\":4,"
    ++ codes "\"op\":\"aggregate\",\"step\":\"PARTIAL\",\"keys\":[3],\"calls\":[{\"name\":\"count_all\"},"
    ++ codes "{\"name\":\"sum\",\"column\":1}],\"input\":{\"id\":5,\"op\":\"join\",\"kind\":\"INNER\","
    ++ codes "\"on\":[[0,0]],\"left\":{\"id\":6,\"op\":\"remote\",\"fragment\":2},\"right\":{\"id\":7,"
    ++ codes "\"op\":\"remote\",\"fragment\":3},\"filters\":[{\"id\":1,\"key\":0,\"scan\":8,\"column\":0,"
    ++ codes "\"wait\":false}]}}},"
    ++ codes "{\"id\":2,\"placement\":\"SOURCE\",\"output\":{\"kind\":\"HASH\",\"columns\":[0]},"
    ++ codes "\"root\":{\"id\":8,\"op\":\"scan\",\"table\":\"orders\",\"columns\":[\"customer\",\"amount\"]}},"
    ++ codes "{\"id\":3,\"placement\":\"SOURCE\",\"output\":{\"kind\":\"HASH\",\"columns\":[0]},"
    ++ codes "\"root\":{\"id\":9,\"op\":\"scan\",\"table\":\"customers\",\"columns\":[\"id\",\"region\"]}}]}"
