mod WdatLaws
